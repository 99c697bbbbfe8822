-- The making step means what CreateMeaning says: its tests are stages, three of which the check has too.
use Prim.Native.Nat.{ℕ, ◌+◌, ◌-◌, ◌≤◌}
use mathlib.Core.Bool.{Bool, ◌||◌}
use mathlib.Core.List.{List, [], ◌∷◌, ◌++◌}
use mathlib.Core.Logic.{inl, inr, ⊎_elim}
use mathlib.Core.Path.{◌≡◌, refl, sym, ap, ◌∙◌}
use native.Mathlib.Omega.{arith}
use lib.Dec.{eqb}
use lib.ListN.{length, get_or}
use borrow.Author.Tests.{eqb-true, eq-eqb}
use Rattle.search.specs.Search.{every}
use Rattle.search.proofs.Search.{every_at, every_intro}
use Rattle.refusal.specs.Answer.{accepted}
use Rattle.refusal.specs.Order.{Step}
use Rattle.refusal.proofs.Means.{Means, Stage, Either, Unless, alike, means_accepted, means_refused, in_append, and_then_means, concludes, tests_mean}
use Rattle.protocol.specs.Version.{size, count}
use Rattle.protocol.specs.Create.{length_steps, count_steps, create}
use Rattle.protocol.specs.History.{Making, created}
use Rattle.protocol.specs.Meaning.{Users, Remembered, NotLast}
use Rattle.protocol.specs.CreateMeaning.{Lengths, NoneBeyond, OneMore, ToLengths, structure_of, CreateMeans}
use Rattle.protocol.specs.CreateMeaning.{Why, users, lengths, remembered, beyond, last, not_next}
use Rattle.protocol.proofs.List.{none_counted}
use Rattle.protocol.proofs.Conditions.{none_or_one}
use Rattle.protocol.proofs.CheckMeans.{users_stage, remembered_stage, last_stage}

-- Counts are the next ones, whether a structure is remembered or none.
pub is_next : (u : ℕ) (mem counts : List ℕ) → OneMore u mem counts → get_or counts u 0 ≡ count mem u + 1
is_next u [] counts w = w.than_none refl ∙ rw (none_counted [] u refl)
is_next u (b ∷ mem) counts w = w.than_remembered (λ z. let y = ap length z in omega arith)

pub next_is : (u : ℕ) (mem counts : List ℕ) → get_or counts u 0 ≡ count mem u + 1 → OneMore u mem counts
next_is u mem counts e = record { than_remembered = λ n. e; than_none = λ z. e ∙ rw (none_counted mem u z) }

module _ (N : ℕ) (mem : List ℕ) (m : Making) where
  abbrev pub length_tests : List Bool
  length_tests =
      (eqb (length mem) 0 || eqb (length mem) size) ∷
      eqb (length m.counts) 16 ∷ eqb (length m.handle) 32 ∷ eqb m.room size ∷ []

  pub lengths_stage : Stage (alike length_tests 2 0 0) (Lengths mem m) (Unless (Lengths mem m) 2 0 0)
  lengths_stage =
      tests_mean length_tests 2 0 0
      (λ t.
      record {
        none_or_one = (none_or_one mem).0 t.0;
        sixteen = eqb-true (length m.counts) 16 t.1.0;
        handle_long = eqb-true (length m.handle) 32 t.1.1.0;
        answer_long = eqb-true m.room size t.1.1.1.0;
      })
      (λ w. (
        (none_or_one mem).1 w.none_or_one,
        (
          eq-eqb (length m.counts) 16 w.sixteen,
          (eq-eqb (length m.handle) 32 w.handle_long, (eq-eqb m.room size w.answer_long, tt)),
        ),
      ))

  abbrev zero_at : ℕ → Bool
  zero_at v = eqb (get_or m.counts v 0) 0

  beyond_stage :
      N ≤ 16 → Stage (alike (every zero_at N (16 - N) ∷ []) 3 0 0) (NoneBeyond N m.counts) (Unless (NoneBeyond N m.counts) 3 0 0)
  beyond_stage small =
      tests_mean (every zero_at N (16 - N) ∷ []) 3 0 0
      (λ t v a b. eqb-true (get_or m.counts v 0) 0 (every_at zero_at N (16 - N) t.0 v a (omega arith)))
      (λ w. (every_intro zero_at N (16 - N) (λ v a b. eq-eqb (get_or m.counts v 0) 0 (w v a (omega arith))), tt))

  next_stage :
      Stage (alike (eqb (get_or m.counts m.user 0) (count mem m.user + 1) ∷ []) 16 0 0) (OneMore m.user mem m.counts)
      (Unless (OneMore m.user mem m.counts) 16 0 0)
  next_stage =
      let own : ℕ = get_or m.counts m.user 0 in
      tests_mean (eqb own (count mem m.user + 1) ∷ []) 16 0 0
      (λ t. next_is m.user mem m.counts (eqb-true own (count mem m.user + 1) t.0))
      (λ w. (eq-eqb own (count mem m.user + 1) (is_next m.user mem m.counts w), tt))

  -- The first stage of the making step: users and lengths.
  abbrev pub Sized : ℕ → ℕ → ℕ → Type 0
  Sized = Either (Users N m.user) (Unless (Users N m.user) 1 0 0) (Unless (Lengths mem m) 2 0 0)

  pub length_stages : Stage (length_steps N m.user mem m.counts m.handle m.room) (ToLengths N mem m) Sized
  unfolding length_steps
  length_stages = and_then_means _ _ (users_stage N m.user) (λ w. lengths_stage)

  -- The second: what is remembered, and the counts.
  abbrev pub Countable : Type 0
  Countable = ((Remembered N m.user mem × NoneBeyond N m.counts) × NotLast m.user mem) × OneMore m.user mem m.counts

  abbrev pub Counted : ℕ → ℕ → ℕ → Type 0
  Counted =
      Either ((Remembered N m.user mem × NoneBeyond N m.counts) × NotLast m.user mem)
      (Either (Remembered N m.user mem × NoneBeyond N m.counts)
      (Either (Remembered N m.user mem) (Unless (Remembered N m.user mem) 3 16 0) (Unless (NoneBeyond N m.counts) 3 0 0))
      (Unless (NotLast m.user mem) 6 0 0))
      (Unless (OneMore m.user mem m.counts) 16 0 0)

  pub count_stages : N ≤ 16 → Stage (count_steps N m.user mem m.counts) Countable Counted
  unfolding count_steps
  count_stages small =
      and_then_means _ _
      (and_then_means _ _ (and_then_means _ _ (remembered_stage N m.user mem) (λ w. beyond_stage small)) (λ w. last_stage m.user mem))
      (λ w. next_stage)

  -- Every way to be refused, as the stages give it.
  abbrev Given : ℕ → ℕ → ℕ → Type 0
  Given = Either (ToLengths N mem m) Sized Counted

  create_stages : Means (created N mem m) (structure_of m) (ToLengths N mem m × Countable) Given
  unfolding create
  create_stages =
      let first : List Step = length_steps N m.user mem m.counts m.handle m.room in
      let second : List Step = count_steps N m.user mem m.counts in
      rw (in_append first second (accepted (structure_of m))) at
      (concludes (first ++ second) (and_then_means first second length_stages (λ w. count_stages w.0.1)) (structure_of m))

  why_given : (n p q : ℕ) → Given n p q → Why N mem m n p q
  why_given n p q =
      ⊎_elim
      (⊎_elim (λ w. rw (w.1, w.2, w.3) (users w.0)) (λ w. rw (w.1.1, w.1.2, w.1.3) (lengths w.0 w.1.0)))
      (λ w.
      let l = w.0 in
      ⊎_elim
      (⊎_elim
      (⊎_elim (λ r. rw (r.1, r.2, r.3) (remembered l r.0)) (λ r. rw (r.1.1, r.1.2, r.1.3) (beyond (l, r.0) r.1.0)))
      (λ r. rw (r.1.1, r.1.2, r.1.3) (last ((l, r.0.0), r.0.1) r.1.0)))
      (λ r. rw (r.1.1, r.1.2, r.1.3) (not_next (((l, r.0.0.0), r.0.0.1), r.0.1) r.1.0))
      w.1)

  given_why : (n p q : ℕ) → Why N mem m n p q → Given n p q
  given_why n p q (users f) = inl (inl (f, refl, refl, refl))
  given_why n p q (lengths w f) = inl (inr (w, (f, refl, refl, refl)))
  given_why n p q (remembered w f) = inr (w, inl (inl (inl (f, refl, refl, refl))))
  given_why n p q (beyond w f) = inr (w.0, inl (inl (inr (w.1, (f, refl, refl, refl)))))
  given_why n p q (last w f) = inr (w.0.0, inl (inr ((w.0.1, w.1), (f, refl, refl, refl))))
  given_why n p q (not_next w f) = inr (w.0.0.0, inr (((w.0.0.1, w.0.1), w.1), (f, refl, refl, refl)))

pub create_means : CreateMeans
create_means N mem m =
    let M = create_stages N mem m in (
      λ x. (
        λ e. let w = means_accepted M e in let c = w.0.1 in (((((w.0.0, c.0.0.0), c.0.0.1), c.0.1), c.1), w.1),
        λ w. let a = w.0 in
            M.accepts (a.0.0.0.0, (((a.0.0.0.1, a.0.0.1), a.0.1), a.1)) ∙ ap accepted (sym w.1),
      ),
      λ n p q. (λ e. why_given N mem m n p q (means_refused M e), λ w. M.refuses (given_why N mem m n p q w)),
    )
