-- Counts from a place on, all of them 0 or not, by what the code says of their list.
use Rattle.std.proofs.Common.{ℕ, ◌+◌, ◌-◌, ◌≤◌, ◌<◌, ◌≡◌, Bool, true, false, List, length, MatchBool, drop, get_or, eqb, sym, arith}
use Rattle.std.specs.List.{HoldsAt, AllWithin}
use Rattle.std.proofs.lemmas.List.{get_or-drop}
use borrow.Author.Tests.{eq-eqb, ne_eqb}
use lib.ListN.{length-drop}
use Rattle.search.specs.Search.{every}
use Rattle.search.proofs.Search.{every_intro, every_fails}

module _ (xs : List ℕ) (i n : ℕ) where
  pub zero_by :
      (r : Bool) → length xs ≡ n → i ≤ n →
      MatchBool r (AllWithin (λ x. x ≡ 0) (drop i xs) 0 (length (drop i xs)))
      ((k : ℕ) × (k < length (drop i xs)) × HoldsAt (λ x. x ≡ 0 → ⊥) (drop i xs) k) → r ≡ every (λ v. eqb (get_or xs v 0) 0) i (n - i)
  zero_by true l h all =
      sym
      (every_intro _ i (n - i)
      (λ v a b.
      let e : i + (v - i) ≡ v = omega arith in
      let d = all (v - i) 0 (omega arith) (simp length-drop (omega arith)) in eq-eqb _ 0 (rw (get_or-drop, e) at d)))
  zero_by false l h (k, b, other) =
      let b' : k < length xs - i = simp length-drop at b in
      sym (every_fails _ i (n - i) (i + k) (omega arith) (omega arith) (ne_eqb _ 0 (rw get_or-drop at (other 0))))
