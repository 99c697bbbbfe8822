-- The block that covers an i-number: it holds the last entry that is at most the i-number, so a leaf answers as the whole level does, and in an
-- inner block that entry's slot leads on.
use Prim.Native.Nat.{ℕ, suc, ◌+◌, ◌-◌, ◌*◌, ◌/◌, ◌≤◌, ◌<◌}
use mathlib.Core.List.{List}
use mathlib.Core.Logic.{◌⊎◌, inl, inr, ⊎_elim}
use mathlib.Core.Path.{◌≡◌, sym, ap, ◌∙◌}
use native.Mathlib.Decide.{dec_le, ℕ_discrete}
use native.Mathlib.Nat.{eq-or-lt_of_le}
use native.Mathlib.Omega.{arith}
use Rattle.itable.specs.Block.{used, number, value}
use Rattle.itable.specs.Table.{Level, used_in, block}
use Rattle.itable.specs.Lookup.{absent, entry_in, entry_of, last_at_most}
use Rattle.itable.proofs.Block.{Sized, number_block, value_block, used_block}
use Rattle.itable.proofs.Place.{Ascends, Place, last_at, entry_found, entry_absent}

-- The index of the block that covers the place p.
abbrev pub cover : ℕ → ℕ
cover p = (p + 15) / 16 - 1

pub slot_used : (n p : ℕ) → p ≤ n → 0 < p → p - 1 - 16 * cover p < used_in n (cover p)
slot_used n p h l = omega arith

pub slot_cover : (p : ℕ) → 0 < p → 16 * cover p + (p - 1 - 16 * cover p) ≡ p - 1
slot_cover p l = omega arith

pub slot_count : (p : ℕ) → 0 < p → p - 16 * cover p ≡ suc (p - 1 - 16 * cover p)
slot_count p l = omega arith

module _ (L : Level) (i p : ℕ) (q : Place L i p) where
  -- Below every number, and in a level whose numbers ascend only the entry before the place can have the number.
  pub none_low : p ≡ 0 → entry_of L i ≡ absent
  none_low z =
      entry_absent L.number L.value L.count i
      (λ j h e. let r : i < L.number j = q.high j (omega arith) h in omega arith)

  only : Ascends L → (j : ℕ) → j < L.count → L.number j ≡ i → suc j ≡ p
  only asc j h e =
      elim (dec_le p j) [
        | yes l ↦ let r : i < L.number j = q.high j l h in absurd (omega arith)
        | no l ↦
            ⊎_elim (λ g. g)
            (λ g.
            let r : L.number (suc j) ≤ i = q.low (suc j) g in
            let t : L.number j < L.number (suc j) = asc j (omega (arith, q.within)) in absurd (omega arith))
            (eq-or-lt_of_le {n = suc j} {m = p} (omega arith))
      ]

  -- An answer over u entries from a on, which hold the entry before the place, is the answer over the level.
  window :
      Ascends L → (f : ℕ → ℕ) (g : ℕ → List ℕ) (a u : ℕ) → a + u ≤ L.count →
      ((j : ℕ) → j < u → f j ≡ L.number (a + j)) → ((j : ℕ) → j < u → g j ≡ L.value (a + j)) →
      (p ≡ 0) ⊎ (a < p) → p ≤ a + u → entry_in f g u i ≡ entry_of L i
  window asc f g a u n ef eg (inl z) l =
      entry_absent f g u i
      (λ j h e. let r : i < L.number (a + j) = q.high (a + j) (omega arith) (omega arith) in omega (arith, ef j h)) ∙
      sym (none_low z)
  window asc f g a u n ef eg (inr t) l =
      let c : p - 1 ≡ a + (p - 1 - a) = omega arith in
      elim (ℕ_discrete (L.number (p - 1)) i) [
        | yes e ↦
            entry_found f g u i (p - 1 - a) (omega arith)
            (λ m h w. let r : suc (a + m) ≡ p = only asc (a + m) (omega arith) (sym (ef m (omega arith)) ∙ w) in omega arith)
            (ef (p - 1 - a) (omega arith) ∙ ap L.number (sym c) ∙ e) ∙
            sym
            (entry_found L.number L.value L.count i (p - 1) (omega arith)
            (λ m h w. let r : suc m ≡ p = only asc m (omega arith) w in omega arith) e ∙
            ap Rattle.itable.specs.Lookup.found (ap L.value c ∙ sym (eg (p - 1 - a) (omega arith))))
        | no ne ↦
            entry_absent f g u i
            (λ j h w.
            let v : L.number (a + j) ≡ i = sym (ef j h) ∙ w in
            let r : suc (a + j) ≡ p = only asc (a + j) (omega arith) v in
            let y : a + j ≡ p - 1 = omega arith in ne (ap L.number (sym y) ∙ v)) ∙
            sym
            (entry_absent L.number L.value L.count i
            (λ j h w.
            let r : suc j ≡ p = only asc j h w in
            let y : j ≡ p - 1 = omega arith in ne (ap L.number (sym y) ∙ w)))
      ]

  module _ (s : Sized L) (κ : ℕ) where
    in_level : 16 * cover p ≤ L.count
    in_level = omega (arith, q.within)

    before_place : (p ≡ 0) ⊎ (16 * cover p < p)
    before_place = elim (dec_le p 0) [ yes l ↦ inl (omega arith) | no l ↦ inr (omega arith) ]

    pub leaf_entry :
        Ascends L →
        entry_in (number (block κ L (cover p))) (value (block κ L (cover p))) (used (block κ L (cover p))) i ≡ entry_of L i
    leaf_entry asc =
        let n : used (block κ L (cover p)) ≡ used_in L.count (cover p) = used_block κ L (cover p) in
        rw n
        (window asc (number (block κ L (cover p))) (value (block κ L (cover p))) (16 * cover p) (used_in L.count (cover p))
        (omega (arith, q.within))
        (number_block L s κ (cover p) in_level) (value_block L s κ (cover p) in_level) before_place (omega (arith, q.within)))

    pub slot_last : last_at_most (number (block κ L (cover p))) i (used (block κ L (cover p))) ≡ p - 16 * cover p
    slot_last =
        rw (used_block κ L (cover p))
        (last_at (number (block κ L (cover p))) i (used_in L.count (cover p)) (p - 16 * cover p) (omega (arith, q.within))
        (λ j h. rw (number_block L s κ (cover p) in_level j (omega (arith, q.within))) (q.low (16 * cover p + j) (omega arith)))
        (λ j h l. rw (number_block L s κ (cover p) in_level j l) (q.high (16 * cover p + j) (omega arith) (omega arith))))
