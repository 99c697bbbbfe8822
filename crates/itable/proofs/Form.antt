-- The blocks over a level are well formed at their places, their numbers below the next block's first one.
use Prim.Native.Nat.{ℕ, suc, ◌+◌, ◌-◌, ◌*◌, ◌≤◌, ◌<◌}
use mathlib.Core.Bool.{true, false, ◌&&◌, ◌||◌}
use mathlib.Core.List.{List}
use mathlib.Core.Logic.{◌⊎◌, inl, inr}
use mathlib.Core.Path.{◌≡◌, refl, sym, ap, ◌∙◌}
use native.Mathlib.Omega.{arith}
use lib.Dec.{leb, ltb, eqb}
use lib.ListN.{get_or, get_or-replicate}
use lib.Seq.{get_or-drop}
use borrow.Author.Tests.{lt-ltb, le-leb, eq-eqb, ne_eqb}
use Rattle.search.proofs.Search.{every_intro}
use Rattle.search.proofs.Bool.{left_true, right_true}
use Rattle.layout.specs.Strings.{zeros}
use Rattle.itable.specs.Block.{used, number, to_root, kind_due, used_due, ascending, unused_zero, first_due, below_bound, well_formed}
use Rattle.itable.specs.Table.{Level, used_in, slots, block}
use Rattle.itable.proofs.Block.{Sized, to_block, block_from, number_block, kind_block, used_block}
use Rattle.itable.proofs.Place.{Ascends, ascends_lt}

-- What is handed down to block k over L as its bound: none, or the first number of the next block.
abbrev pub Bounded : Level → ℕ → ℕ → Type 0
Bounded L k bound = (bound ≡ 0) ⊎ ((16 * suc k < L.count) × (bound ≡ L.number (16 * suc k)))

module _ (L : Level) (s : Sized L) (κ k : ℕ) (h : 16 * k ≤ L.count) where
  numbers_ascend : Ascends L → ascending (block κ L k) ≡ true
  unfolding ascending
  numbers_ascend asc =
      rw (used_block κ L k)
      (every_intro (λ j. ltb (number (block κ L k) j) (number (block κ L k) (j + 1))) 0 (used_in L.count k - 1)
      (λ j a l.
      let e : 16 * k + (j + 1) ≡ suc (16 * k + j) = omega arith in
      rw (number_block L s κ k h j (omega arith), number_block L s κ k h (j + 1) (omega arith), e)
      (lt-ltb _ _ (asc (16 * k + j) (omega arith)))))

  rest_is_zero : unused_zero (block κ L k) ≡ true
  unfolding unused_zero zeros slots
  rest_is_zero =
      rw (used_block κ L k)
      (every_intro (λ x. eqb (get_or (block κ L k) x 0) 0) (2 + 40 * used_in L.count k) (640 - 40 * used_in L.count k)
      (λ x a l.
      let e : x ≡ 2 + 40 * used_in L.count k + (x - (2 + 40 * used_in L.count k)) = omega arith in
      let z : used_in L.count k - used_in L.count k ≡ 0 = omega arith in
      eq-eqb (get_or (block κ L k) x 0) 0
      (ap (λ y. get_or (block κ L k) y 0) e ∙
      (sym (get_or-drop (2 + 40 * used_in L.count k) (block κ L k) (x - (2 + 40 * used_in L.count k)) 0) ∙
      rw (block_from L s κ k h (used_in L.count k) (omega arith), z)
      (get_or-replicate {A = ℕ} (640 - 40 * used_in L.count k) (x - (2 + 40 * used_in L.count k)) 0 0 (omega arith))))))

  enough :
      (due : ℕ) → used_in L.count k ≤ 16 → (leb 1 (used_in L.count k) || (eqb due 0 && eqb κ 3)) ≡ true →
      used_due due (block κ L k) ≡ true
  unfolding used_due
  enough due l e = rw (used_block κ L k, kind_block κ L k, le-leb (used_in L.count k) 16 l, e)

  -- At the root: of a kind that a root may have, and empty only where it is a leaf.
  pub root_form :
      (handle : List ℕ) → Ascends L → 3 ≤ κ → κ ≤ 5 → (leb 1 (used_in L.count k) || eqb κ 3) ≡ true →
      well_formed (to_root handle) (block κ L k) ≡ true
  unfolding well_formed kind_due first_due below_bound
  root_form handle asc lo hi e =
      rw (enough 0 (omega arith) e, numbers_ascend asc, rest_is_zero, kind_block κ L k, le-leb 3 κ lo, le-leb κ 5 hi)

  numbers_below : Ascends L → (bound : ℕ) → Bounded L k bound → below_bound bound (block κ L k) ≡ true
  unfolding below_bound
  numbers_below asc bound (inl z) = left_true (eqb bound 0) _ (eq-eqb bound 0 z)
  numbers_below asc bound (inr w) =
      right_true (eqb bound 0) _
      (every_intro (λ j. ltb (number (block κ L k) j) bound) 0 (used (block κ L k))
      (λ j a l.
      let u : j < used_in L.count k = omega (arith, used_block κ L k) in
      let g : L.number (16 * k + j) < L.number (16 * suc k) = ascends_lt L asc (16 * k + j) (16 * suc k) (omega arith) w.0 in
      lt-ltb _ bound (omega (arith, number_block L s κ k h j u, w.1, g))))

  -- Below the slot that names its first number.
  pub child_form :
      Ascends L → 0 < κ → 16 * k < L.count → (bound : ℕ) → Bounded L k bound → well_formed (to_block κ L bound k) (block κ L k) ≡ true
  unfolding well_formed kind_due first_due
  child_form asc pos l bound below =
      let e : 16 * k + 0 ≡ 16 * k = omega arith in
      let f : number (block κ L k) 0 ≡ L.number (16 * k) = number_block L s κ k h 0 (omega arith) ∙ ap L.number e in
      let n : eqb κ 0 ≡ false = ne_eqb κ 0 (omega arith) in
      rw (
        enough κ (omega arith) (left_true _ (eqb κ 0 && eqb κ 3) (le-leb 1 (used_in L.count k) (omega arith))),
        numbers_ascend asc,
        rest_is_zero,
        kind_block κ L k,
        n,
        eq-eqb κ κ refl,
        f,
        eq-eqb (L.number (16 * k)) (L.number (16 * k)) refl,
        numbers_below asc bound below,
      )
