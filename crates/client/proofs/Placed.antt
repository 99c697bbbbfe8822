-- The second stage's tests of list and marks, tried in order: which of them fails, and at which record; and what holds where none does.
use Prim.Native.Nat.{ℕ, ◌+◌, ◌<◌}
use mathlib.Core.Bool.{Bool, true, not}
use mathlib.Core.List.{List}
use mathlib.Core.Path.{◌≡◌, refl, sym, ap, ◌∙◌}
use native.Mathlib.Omega.{arith}
use lib.Dec.{eqb}
use lib.ListN.{length, get_or}
use Rattle.std.specs.Prelude.{Option, None, Some}
use Rattle.std.specs.List.{position, position_or_len}
use Rattle.std.proofs.lemmas.List.Sums.{position_or_len_is}
use Rattle.search.specs.Search.{find, first, every}
use Rattle.search.proofs.Place.{was_first, was_none}
use Rattle.search.proofs.Search.{found, every_at, some_fails, none_fails}
use Rattle.refusal.specs.Answer.{Answer, accepted, refused}
use Rattle.refusal.specs.Order.{in_order, tried}
use Rattle.refusal.proofs.Order.{passed, unless_passed}
use Rattle.protocol.specs.Version.{owner}
use Rattle.protocol.specs.List.{records, record_at, well_placed}
use Rattle.protocol.specs.Check.{form_steps, remembers}
use Rattle.protocol.proofs.Conditions.{well_placed_means}

-- The first element that passes, by the search for its place.
position_first : (p : ℕ → Bool) (xs : List ℕ) → position p xs ≡ first (λ i. p (get_or xs i 0)) 0 (length xs)
position_first p xs =
    let f = found (λ i. p (get_or xs i 0)) 0 (length xs) in
    let z : 0 + length xs ≡ length xs = omega arith in
    let e : position_or_len p xs ≡ find (λ i. p (get_or xs i 0)) 0 (length xs) =
    position_or_len_is p xs _ 0 (omega (arith, f.within)) (λ k l. f.before k (omega arith) l) (λ l. f.hit (omega (arith, l))) in
    rw (e, z)

module _ (N u : ℕ) (mem list marks : List ℕ) where
  abbrev due : Answer Unit
  due = tried (form_steps N u mem list marks)

  module _ (t : remembers N u mem ≡ true) (m : Option ℕ) (em : m ≡ first (λ i. not (well_placed N list i)) 0 (records list)) where
    pub misplaced : {r : ℕ} → m ≡ Some r → refused 3 r 0 ≡ due
    unfolding form_steps in_order
    misplaced h =
        let w = was_first _ 0 (records list) (sym em ∙ h) in
        rw (t, some_fails (well_placed N list) (records list) _ (sym w.0) (λ q. omega (arith, w.1)), w.0)

    module _ (q : m ≡ None) (s : Option ℕ) (l : length marks ≡ records list) (es : s ≡ position (λ x. not (eqb x 1)) marks) where
      marked : s ≡ first (λ i. not (eqb (get_or marks i 0) 1)) 0 (records list)
      marked = es ∙ (position_first (λ x. not (eqb x 1)) marks ∙ ap (first (λ i. not (eqb (get_or marks i 0) 1)) 0) l)

      placed : every (well_placed N list) 0 (records list) ≡ true
      placed = let w = was_none _ 0 (records list) (sym em ∙ q) in none_fails (well_placed N list) (records list) _ refl (omega (arith, w))

      pub unmarked : {r : ℕ} → s ≡ Some r → refused 4 r 0 ≡ due
      unfolding form_steps in_order
      unmarked h =
          let w = was_first _ 0 (records list) (sym marked ∙ h) in
          rw (t, placed, some_fails (λ i. eqb (get_or marks i 0) 1) (records list) _ (sym w.0) (λ q. omega (arith, w.1)), w.0)

      pub all_formed : s ≡ None → accepted tt ≡ due
      unfolding form_steps in_order
      all_formed h =
          let w = was_none _ 0 (records list) (sym marked ∙ h) in
          rw (t, placed, none_fails (λ i. eqb (get_or marks i 0) 1) (records list) _ refl (omega (arith, w)))

  -- Where the stage passes, each record's owner is a user.
  pub owners_below : due ≡ accepted tt → (i : ℕ) → i < records list → owner (record_at list i) < N
  unfolding form_steps
  owners_below d i h =
      let w : every (well_placed N list) 0 (records list) ≡ true =
      unless_passed _ _ _ _ (passed (form_steps N u mem list marks) d).0.1.0 in
      ((well_placed_means N list i).0 (every_at (well_placed N list) 0 (records list) w i (omega arith) (omega arith))).0.owner_below
