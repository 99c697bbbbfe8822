-- The check on a memory file means what CheckFileMeaning says: up to 4 its stages are those of the check, and two for the file; then it says
-- "send again", or goes on with the check's stages.
use Prim.Native.Nat.{ℕ, ◌+◌, ◌≤◌, ◌<◌}
use mathlib.Core.Bool.{Bool, true, false, not, cond, ◌&&◌}
use mathlib.Core.List.{List, [], ◌++◌}
use mathlib.Core.Logic.{◌↔◌, inl, inr, ⊎_elim}
use mathlib.Core.Path.{◌≡◌, refl, sym, ap, ◌∙◌}
use native.Mathlib.Omega.{arith}
use lib.Dec.{eqb}
use borrow.Author.Tests.{eqb-true, eq-eqb}
use Rattle.search.proofs.Bool.{bool_cases, both_true, not_both}
use Rattle.layout.proofs.Strings.{same_true}
use Rattle.refusal.specs.Answer.{Answer, accepted, refused}
use Rattle.refusal.specs.Order.{Step, in_order}
use Rattle.refusal.proofs.Means.{Means, Stage, Either, Unless, AtFirst, AtFirstPair, means_accepted, means_refused, in_append, and_then_means, concludes, merged}
use Rattle.protocol.specs.Version.{owner, count, own}
use Rattle.protocol.specs.List.{records, record_at, entry}
use Rattle.protocol.specs.Check.{current, size_steps, form_steps, order_steps}
use Rattle.protocol.specs.MemoryFile.{state, held, given_steps, sends_again, Verdict, next, again, check_file}
use Rattle.protocol.specs.History.{Call, called_on}
use Rattle.protocol.specs.Meaning.{Users, Sizes, Remembered, WellPlaced, Marked, Current, NotLast, Ordered, new_of, new_counts}
use Rattle.protocol.specs.Meaning as Held
use Rattle.protocol.specs.MemoryMeaning.{Stated, is_sent, is_pending, is_none, Formed}
use Rattle.protocol.specs.CheckFileMeaning.{FileSizes, SendsAgain, ToSizes, ToFormed, ToMarked}
use Rattle.protocol.specs.CheckFileMeaning.{Why, users, lengths, malformed, placed, unmarked, not_current, last, unordered, CheckFileMeans}
use Rattle.protocol.proofs.List.{none_counted, entry_cases}
use Rattle.protocol.proofs.Conditions.{both_intro, entry_at, current_means}
use Rattle.protocol.proofs.CheckMeans.{users_stage, sizes_stage, remembered_stage, placed_stage, marked_stage, current_stage, last_stage, pairs_stage}
use Rattle.protocol.proofs.FileForm.{held_behind, formed_remembered, held_length}
use Rattle.protocol.proofs.MemoryMeans.{length_stage, form_stage}

-- What is held of a pending file is its user's own.
pending_own : (N u : ℕ) (f : List ℕ) → Stated N u f → state f ≡ 1 → owner (held f) ≡ u
pending_own N u f (is_sent e w) p = absurd (omega arith)
pending_own N u f (is_pending e w) p = ap owner (held_behind f (λ z. omega arith)) ∙ w.1
pending_own N u f (is_none e z) p = absurd (omega arith)

module _ (N : ℕ) (f : List ℕ) (c : Call) where
  abbrev u : ℕ
  u = c.user

  abbrev mem : List ℕ
  mem = held f

  -- The conditions up to 4, as the check on what is held has them.
  to_held : ToMarked N f c → Held.ToMarked N mem c
  to_held w =
      let s = w.0.0.0.1.0 in (
        (
          (
            (
              w.0.0.0.0,
              record {
                none_or_one = held_length f w.0.0.0.1.1;
                whole = s.whole;
                at_most = s.at_most;
                one_mark_each = s.one_mark_each;
              },
            ),
            formed_remembered N u f w.0.0.1,
          ),
          w.0.1,
        ),
        w.1,
      )

  is_current : ToMarked N f c → (current u mem c.list ≡ true) ↔ Current u mem c.list
  is_current w = current_means N c.list w.0.0.0.1.0.whole w.0.1 u mem

  -- Where the list shows what is held, nothing is sent again.
  current_goes_on : ToMarked N f c → Current u mem c.list → sends_again u f c.list ≡ false
  unfolding sends_again
  current_goes_on w k = rw ((is_current w).1 k)

  again_means : ToMarked N f c → (sends_again u f c.list ≡ true) ↔ SendsAgain u f c.list
  unfolding sends_again current
  again_means w =
      let whole = w.0.0.0.1.0.whole in
      let e : List ℕ = entry c.list u in
      let before : Bool = eqb (count e u + 1) (count mem u) in
      let pends : Bool = eqb (state f) 1 in
      let shown : Bool = current u mem c.list in
      let own_held : state f ≡ 1 → own mem ≡ count mem u = λ p. ap (count mem) (pending_own N u f w.0.0.1.1 p) in (
        λ t.
            let a = both_true (not shown) (pends && before) t in
            let b = both_true pends before a.1 in
            let p : state f ≡ 1 = eqb-true (state f) 1 b.0 in
            let n : count e u + 1 ≡ count mem u = eqb-true (count e u + 1) (count mem u) b.1 in (
              p,
              ⊎_elim
                  (λ z.
                  inr (
                    λ i l o.
                        let r : record_at c.list i ≡ [] = sym (entry_at N c.list whole w.0.1 i l) ∙ rw o z in
                        let x = (w.0.1 i l).0.own_counted in x (none_counted (record_at c.list i) (owner (record_at c.list i)) r),
                    omega (arith, own_held p, none_counted e u z),
                  ))
                  (λ r.
                  let same_count : own (record_at c.list r.0) ≡ count e u =
                  ap (count (record_at c.list r.0)) r.2 ∙ ap (λ (x : List ℕ). count x u) r.3
                  in
                  inl (r.0, r.1, r.2, omega (arith, own_held p)))
                  (entry_cases c.list whole u),
            ),
        λ k.
            let p : state f ≡ 1 = k.0 in
            let n : count e u + 1 ≡ count mem u =
            ⊎_elim
            (λ r.
            let at : e ≡ record_at c.list r.0 = rw r.2 at (entry_at N c.list whole w.0.1 r.0 r.1) in
            let same_count : count e u ≡ own (record_at c.list r.0) =
            ap (λ (x : List ℕ). count x u) at ∙ ap (count (record_at c.list r.0)) (sym r.2)
            in
            omega (arith, r.3, own_held p))
            (λ none.
            ⊎_elim (λ z. omega (arith, none.1, own_held p, none_counted e u z)) (λ r. absurd (none.0 r.0 r.1 r.2))
            (entry_cases c.list whole u))
            k.1
            in
            let other : shown ≡ false =
            ⊎_elim
            (λ t.
            let s : count e u ≡ count mem u = ap (λ (x : List ℕ). count x u) (same_true e mem t) in absurd (omega arith))
            (λ t. t) (bool_cases shown)
            in
            rw other (both_intro pends before (eq-eqb (state f) 1 p) (eq-eqb (count e u + 1) (count mem u) n)),
      )

  -- The stages up to 4.
  abbrev Judged : Type 0
  Judged =
      ToSizes N f c ×
      (Formed N u f ×
      ((Remembered N u mem × ((i : ℕ) → i < records c.list → WellPlaced N c.list i)) ×
      ((i : ℕ) → i < records c.list → Marked c.marks i)))

  abbrev GivenFirst : ℕ → ℕ → ℕ → Type 0
  GivenFirst =
      Either (ToSizes N f c) (Either (Users N u) (Unless (Users N u) 1 0 0) (Unless (FileSizes N f c) 2 0 0))
      (Either (Formed N u f) (Unless (Formed N u f) 3 16 0)
      (Either (Remembered N u mem × ((i : ℕ) → i < records c.list → WellPlaced N c.list i))
      (Either (Remembered N u mem) (Unless (Remembered N u mem) 3 16 0) (AtFirst (WellPlaced N c.list) (records c.list) 3))
      (AtFirst (Marked c.marks) (records c.list) 4)))

  abbrev first_steps : List Step
  first_steps = size_steps N u [] c.list c.marks ++ (given_steps N u f ++ form_steps N u mem c.list c.marks)

  first_stages : Stage first_steps Judged GivenFirst
  unfolding size_steps given_steps form_steps
  first_stages =
      and_then_means _ _ (and_then_means _ _ (users_stage N u) (λ w. merged _ _ (sizes_stage N [] c) (length_stage f)))
      (λ w.
      and_then_means _ _ (form_stage N u f)
      (λ v. and_then_means _ _ (and_then_means _ _ (remembered_stage N u mem) (λ x. placed_stage N mem c)) (λ x. marked_stage N mem c)))

  to_marked : Judged → ToMarked N f c
  to_marked w = (((w.0, w.1.0), w.1.1.0.1), w.1.1.1)

  to_judged : ToMarked N f c → Judged
  to_judged w = (w.0.0.0, (w.0.0.1, ((formed_remembered N u f w.0.0.1, w.0.1), w.1)))

  -- Those after it.
  abbrev GivenLast : ℕ → ℕ → ℕ → Type 0
  GivenLast =
      Either (Current u mem c.list × NotLast u mem)
      (Either (Current u mem c.list) (Unless (Current u mem c.list) 5 0 0) (Unless (NotLast u mem) 6 0 0))
      (AtFirstPair (Ordered c.list (new_of mem c)) (records c.list) 7)

  last_stages :
      ToMarked N f c →
      Stage (order_steps u mem c.list)
      ((Current u mem c.list × NotLast u mem) × ((i j : ℕ) → i < j → j ≤ records c.list → Ordered c.list (new_of mem c) i j)) GivenLast
  unfolding order_steps
  last_stages w =
      and_then_means _ _ (and_then_means _ _ (current_stage N mem c (to_held w)) (λ k. last_stage u mem)) (λ k. pairs_stage N mem c)

  abbrev rest : Answer Verdict
  rest = cond (sends_again u f c.list) (accepted (again mem)) (in_order (order_steps u mem c.list) (accepted (next (new_counts mem c))))

  in_steps : in_order first_steps rest ≡ called_on N f c
  unfolding check_file
  in_steps =
      in_append (size_steps N u [] c.list c.marks) (given_steps N u f ++ form_steps N u mem c.list c.marks) rest ∙
      ap (in_order (size_steps N u [] c.list c.marks)) (in_append (given_steps N u f) (form_steps N u mem c.list c.marks) rest)

  -- "Send again".
  again_stages : sends_again u f c.list ≡ true → Means (called_on N f c) (again mem) Judged GivenFirst
  again_stages t =
      let e : in_order first_steps (accepted (again mem)) ≡ called_on N f c = rw t at in_steps in rw e at (concludes first_steps first_stages (again mem))

  next_stages :
      sends_again u f c.list ≡ false →
      Means (called_on N f c) (next (new_counts mem c))
      (Judged × ((Current u mem c.list × NotLast u mem) × ((i j : ℕ) → i < j → j ≤ records c.list → Ordered c.list (new_of mem c) i j)))
      (Either Judged GivenFirst GivenLast)
  next_stages t =
      let lasts : List Step = order_steps u mem c.list in
      let result : Answer Verdict = accepted (next (new_counts mem c)) in
      let e : in_order (first_steps ++ lasts) result ≡ called_on N f c = in_append first_steps lasts result ∙ (rw t at in_steps) in
      rw e at
      (concludes (first_steps ++ lasts) (and_then_means first_steps lasts first_stages (λ w. last_stages (to_marked w))) (next (new_counts mem c)))

  why_first : (n p q : ℕ) → GivenFirst n p q → Why N f c n p q
  why_first n p q =
      ⊎_elim
      (⊎_elim (λ w. rw (w.1, w.2, w.3) (users w.0)) (λ w. rw (w.1.1, w.1.2, w.1.3) (lengths w.0 w.1.0)))
      (λ w.
      ⊎_elim (λ r. rw (r.1, r.2, r.3) (malformed w.0 r.0))
      (λ v.
      let t : ToFormed N f c = (w.0, v.0) in
      ⊎_elim
      (⊎_elim (λ r. absurd (r.0 (formed_remembered N u f v.0))) (λ r. rw (r.1.1, r.1.2) (placed p t r.1.0)))
      (λ r. rw (r.1.1, r.1.2) (unmarked p (t, r.0.1) r.1.0)) v.1)
      w.1)

  why_last : sends_again u f c.list ≡ false → (n p q : ℕ) → Judged → GivenLast n p q → Why N f c n p q
  why_last s n p q w =
      let m = to_marked w in
      ⊎_elim
      (⊎_elim (λ r. rw (r.1, r.2, r.3) (not_current m r.0 (λ k. not_both ((again_means m).1 k) s)))
      (λ r. rw (r.1.1, r.1.2, r.1.3) (last (m, r.0) r.1.0)))
      (λ r. rw r.1.1 (unordered p q ((m, r.0.0), r.0.1) r.1.0))

  -- A refusal before 5 is given whether something is to be sent or not.
  refused_first : (n p q : ℕ) → GivenFirst n p q → called_on N f c ≡ refused n p q
  refused_first n p q g =
      ⊎_elim (λ t. (again_stages t).refuses g) (λ t. (next_stages t).refuses (inl g)) (bool_cases (sends_again u f c.list))

  refused_why : (n p q : ℕ) → Why N f c n p q → called_on N f c ≡ refused n p q
  refused_why n p q (users x) = refused_first 1 0 0 (inl (inl (x, refl, refl, refl)))
  refused_why n p q (lengths w x) = refused_first 2 0 0 (inl (inr (w, (x, refl, refl, refl))))
  refused_why n p q (malformed w x) = refused_first 3 16 0 (inr (w, inl (x, refl, refl, refl)))
  refused_why n p q (placed i w x) =
      refused_first 3 i 0 (inr (w.0, inr (w.1, inl (inr (formed_remembered N u f w.1, (x, refl, refl))))))
  refused_why n p q (unmarked i w x) =
      refused_first 4 i 0 (inr (w.0.0, inr (w.0.1, inr ((formed_remembered N u f w.0.1, w.1), (x, refl, refl)))))
  refused_why n p q (not_current w x s) =
      let t : sends_again u f c.list ≡ false =
      ⊎_elim (λ a. absurd (s ((again_means w).0 a))) (λ b. b) (bool_cases (sends_again u f c.list))
      in
      (next_stages t).refuses (inr (to_judged w, inl (inl (x, refl, refl, refl))))
  refused_why n p q (last w x) =
      (next_stages (current_goes_on w.0 w.1)).refuses (inr (to_judged w.0, inl (inr (w.1, (x, refl, refl, refl)))))
  refused_why n p q (unordered i j w x) =
      (next_stages (current_goes_on w.0.0 w.0.1)).refuses (inr (to_judged w.0.0, inr ((w.0.1, w.1), (x, refl))))

pub check_file_means : CheckFileMeans
check_file_means N f c =
    let s : Bool = sends_again c.user f c.list in (
      λ a. (
        λ e.
            ⊎_elim
            (λ t. let w = means_accepted (again_stages N f c t) e in let z : ◌≡◌ {A = ℕ} 0 1 = cc w.1 in absurd (omega arith))
            (λ t.
            let w = means_accepted (next_stages N f c t) e in
            let is : a ≡ new_counts (held f) c = cc w.1 in
            let m = to_marked N f c w.0.0 in ((((m, w.0.1.0.0), w.0.1.0.1), w.0.1.1), is))
            (bool_cases s),
        λ w.
            let k = w.0.0.0 in
            (next_stages N f c (current_goes_on N f c k.0 k.1)).accepts (to_judged N f c k.0, ((k.1, w.0.0.1), w.0.1)) ∙
            ap (λ (b : List ℕ). accepted (next b)) (sym w.1),
      ),
      λ x. (
        λ e.
            ⊎_elim
            (λ t.
            let w = means_accepted (again_stages N f c t) e in
            let is : x ≡ held f = cc w.1 in
            let m = to_marked N f c w.0 in ((m, (again_means N f c m).0 t), is))
            (λ t. let w = means_accepted (next_stages N f c t) e in let z : ◌≡◌ {A = ℕ} 0 1 = cc w.1 in absurd (omega arith))
            (bool_cases s),
        λ w.
            (again_stages N f c ((again_means N f c w.0.0).1 w.0.1)).accepts (to_judged N f c w.0.0) ∙
            ap (λ (b : List ℕ). accepted (again b)) (sym w.1),
      ),
      λ n p q. (
        λ e.
            ⊎_elim (λ t. why_first N f c n p q (means_refused (again_stages N f c t) e))
            (λ t.
            ⊎_elim (why_first N f c n p q) (λ r. why_last N f c t n p q r.0 r.1) (means_refused (next_stages N f c t) e))
            (bool_cases s),
        refused_why N f c n p q,
      ),
    )
