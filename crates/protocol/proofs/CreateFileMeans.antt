-- The making step on a memory file means what CreateFileMeaning says: its stages are those of the making step, and two for the file.
use Prim.Native.Nat.{ℕ}
use mathlib.Core.List.{List, [], ◌++◌}
use mathlib.Core.Logic.{inl, inr, ⊎_elim}
use mathlib.Core.Path.{◌≡◌, refl, sym, ap, ◌∙◌}
use Rattle.refusal.specs.Answer.{accepted}
use Rattle.refusal.specs.Order.{Step, in_order}
use Rattle.refusal.proofs.Means.{Means, Stage, Either, Unless, means_accepted, means_refused, in_append, and_then_means, concludes, merged}
use Rattle.protocol.specs.Create.{length_steps, count_steps}
use Rattle.protocol.specs.MemoryFile.{held, given_steps, create_file}
use Rattle.protocol.specs.History.{Making, created_on}
use Rattle.protocol.specs.Meaning.{Users}
use Rattle.protocol.specs.CreateMeaning.{structure_of}
use Rattle.protocol.specs.MemoryMeaning.{Formed}
use Rattle.protocol.specs.CreateFileMeaning.{FileLengths, ToLengths, ToFormed, Why, users, lengths, malformed, beyond, last, not_next, CreateFileMeans}
use Rattle.protocol.proofs.CheckMeans.{users_stage}
use Rattle.protocol.proofs.CreateMeans.{lengths_stage, Countable, Counted, count_stages}
use Rattle.protocol.proofs.FileForm.{formed_remembered}
use Rattle.protocol.proofs.MemoryMeans.{length_stage, form_stage}

module _ (N : ℕ) (f : List ℕ) (m : Making) where
  -- Every way to be refused, as the stages give it.
  abbrev Given : ℕ → ℕ → ℕ → Type 0
  Given =
      Either (ToLengths N f m) (Either (Users N m.user) (Unless (Users N m.user) 1 0 0) (Unless (FileLengths f m) 2 0 0))
      (Either (Formed N m.user f) (Unless (Formed N m.user f) 3 16 0) (Counted N (held f) m))

  all_stages :
      Stage
      (length_steps N m.user [] m.counts m.handle m.room ++
      (given_steps N m.user f ++ count_steps N m.user (held f) m.counts))
      (ToLengths N f m × (Formed N m.user f × Countable N (held f) m)) Given
  unfolding length_steps given_steps
  all_stages =
      and_then_means _ _ (and_then_means _ _ (users_stage N m.user) (λ w. merged _ _ (lengths_stage N [] m) (length_stage f)))
      (λ w. and_then_means _ _ (form_stage N m.user f) (λ v. count_stages N (held f) m w.0.1))

  create_stages : Means (created_on N f m) (structure_of m) (ToLengths N f m × (Formed N m.user f × Countable N (held f) m)) Given
  unfolding create_file
  create_stages =
      let first : List Step = length_steps N m.user [] m.counts m.handle m.room in
      let second : List Step = given_steps N m.user f in
      let third : List Step = count_steps N m.user (held f) m.counts in
      let e : in_order (first ++ (second ++ third)) (accepted (structure_of m)) ≡ created_on N f m =
      in_append first (second ++ third) (accepted (structure_of m)) ∙ ap (in_order first) (in_append second third (accepted (structure_of m)))
      in
      rw e at (concludes (first ++ (second ++ third)) all_stages (structure_of m))

  why_given : (n p q : ℕ) → Given n p q → Why N f m n p q
  why_given n p q =
      ⊎_elim
      (⊎_elim (λ w. rw (w.1, w.2, w.3) (users w.0)) (λ w. rw (w.1.1, w.1.2, w.1.3) (lengths w.0 w.1.0)))
      (λ w.
      let l = w.0 in
      ⊎_elim (λ r. rw (r.1, r.2, r.3) (malformed l r.0))
      (λ v.
      let t : ToFormed N f m = (l, v.0) in
      ⊎_elim
      (⊎_elim
      (⊎_elim (λ r. absurd (r.0 (formed_remembered N m.user f v.0))) (λ r. rw (r.1.1, r.1.2, r.1.3) (beyond t r.1.0)))
      (λ r. rw (r.1.1, r.1.2, r.1.3) (last (t, r.0.1) r.1.0)))
      (λ r. rw (r.1.1, r.1.2, r.1.3) (not_next ((t, r.0.0.1), r.0.1) r.1.0))
      v.1)
      w.1)

  given_why : (n p q : ℕ) → Why N f m n p q → Given n p q
  given_why n p q (users x) = inl (inl (x, refl, refl, refl))
  given_why n p q (lengths w x) = inl (inr (w, (x, refl, refl, refl)))
  given_why n p q (malformed w x) = inr (w, inl (x, refl, refl, refl))
  given_why n p q (beyond w x) =
      inr (w.0, inr (w.1, inl (inl (inr (formed_remembered N m.user f w.1, (x, refl, refl, refl))))))
  given_why n p q (last w x) =
      inr (w.0.0, inr (w.0.1, inl (inr ((formed_remembered N m.user f w.0.1, w.1), (x, refl, refl, refl)))))
  given_why n p q (not_next w x) =
      inr (
        w.0.0.0,
        inr (w.0.0.1, inr (((formed_remembered N m.user f w.0.0.1, w.0.1), w.1), (x, refl, refl, refl))),
      )

pub create_file_means : CreateFileMeans
create_file_means N f m =
    let M = create_stages N f m in (
      λ x. (
        λ e. let w = means_accepted M e in let c = w.0.1.1 in (((((w.0.0, w.0.1.0), c.0.0.1), c.0.1), c.1), w.1),
        λ w.
            let a = w.0 in
            let formed = a.0.0.0.1 in
            M.accepts (a.0.0.0.0, (formed, (((formed_remembered N m.user f formed, a.0.0.1), a.0.1), a.1))) ∙
            ap accepted (sym w.1),
      ),
      λ n p q. (λ e. why_given N f m n p q (means_refused M e), λ w. M.refuses (given_why N f m n p q w)),
    )
