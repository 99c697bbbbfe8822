-- From the inner block that covers an i-number the lookup goes on at the child that covers it, whose numbers are below the bound there.
use Prim.Native.Nat.{ℕ, suc, ◌+◌, ◌-◌, ◌*◌, ◌/◌, ◌≤◌, ◌<◌}
use mathlib.Core.List.{List}
use mathlib.Core.Logic.{inl, inr, ⊎_elim}
use mathlib.Core.Path.{◌≡◌, ap, ◌∙◌}
use native.Mathlib.Decide.{dec_le}
use native.Mathlib.Omega.{arith}
use Rattle.itable.specs.Block.{kind, used, number, child_bound}
use Rattle.itable.specs.declared.Link.{Link}
use Rattle.itable.specs.Table.{Level, used_in, block, above}
use Rattle.itable.specs.Lookup.{absent, last_at_most, known, answer_at, consult}
use Rattle.itable.proofs.Block.{to_block, above_sized, number_block, value_block, kind_block, used_block}
use Rattle.itable.proofs.BlockBound.{next_bounds, last_hands_down}
use Rattle.itable.proofs.Form.{Bounded}
use Rattle.itable.proofs.Place.{Place, above_place}
use Rattle.itable.proofs.Cover.{cover, slot_used, slot_cover, slot_count, slot_last}
use Rattle.itable.proofs.Consult.{along, answer_none, answer_on}

module _ (κ : ℕ) (L : Level) (i p : ℕ) (q : Place L i p) (pos : 0 < L.count) (h : 3 ≤ κ) where
  -- The block over the blocks of L, and its slot for the child.
  abbrev pub parent : List ℕ
  parent = block (suc κ) (above κ L) (cover ((p + 15) / 16))

  abbrev pub slot : ℕ
  slot = (p + 15) / 16 - 1 - 16 * cover ((p + 15) / 16)

  place : Place (above κ L) i ((p + 15) / 16)
  place = above_place κ L i p pos q

  inner : kind parent ≡ 3 → ⊥
  inner e = let k : kind parent ≡ suc κ = kind_block (suc κ) (above κ L) (cover ((p + 15) / 16)) in omega arith

  last : last_at_most (number parent) i (used parent) ≡ (p + 15) / 16 - 16 * cover ((p + 15) / 16)
  last = slot_last (above κ L) i ((p + 15) / 16) place (above_sized κ L) (suc κ)

  in_row : 16 * cover ((p + 15) / 16) ≤ (above κ L).count
  in_row = omega (arith, place.within)

  -- The number in the parent's next slot is the first one of the next block; the last slot hands the parent's bound down, which is that too.
  pub child_bounded :
      (bound : ℕ) → 0 < p → Bounded (above κ L) (cover ((p + 15) / 16)) bound → Bounded L (cover p) (child_bound bound parent slot)
  unfolding above
  child_bounded bound l w =
      let up : ℕ = cover ((p + 15) / 16) in
      let f : 0 < (p + 15) / 16 = omega arith in
      let e : 16 * up + slot ≡ cover p = slot_cover ((p + 15) / 16) f in
      let u : used parent ≡ used_in (above κ L).count up = used_block (suc κ) (above κ L) up in
      elim (dec_le (used parent) (suc slot)) [
        | yes m ↦
            let handed : Bounded L (cover p) bound =
            ⊎_elim (λ z. inl z)
            (λ v. let g : 16 * suc up ≡ suc (cover p) = omega (arith, u, v.0) in inr (omega (arith, v.0), v.1 ∙ ap (λ x. L.number (16 * x)) g)) w in
            rw (last_hands_down bound parent slot m) handed
        | no m ↦
            let n : suc slot < used_in (above κ L).count up = omega arith in
            let g : 16 * up + suc slot ≡ suc (cover p) = omega arith in
            rw (next_bounds bound parent slot (omega arith))
            (inr (
              omega arith,
              number_block (above κ L) (above_sized κ L) (suc κ) up in_row (suc slot) n ∙ ap (λ x. L.number (16 * x)) g,
            ))
      ]

  module _ (path : List ℕ) (left d : ℕ) (k : Link) where
    pub none_leads : p ≡ 0 → answer_at parent i left (suc d) (along path i left d k parent) ≡ known left (suc d) absent
    none_leads z = answer_none parent i left (suc d) (along path i left d k parent) inner (last ∙ omega arith)

    pub child_leads :
        0 < p →
        answer_at parent i left (suc d) (along path i left d k parent) ≡
        consult path i left (suc d) (to_block κ L (child_bound k.bound parent slot) (cover p))
    unfolding above
    child_leads l =
        let f : 0 < (p + 15) / 16 = omega arith in
        let n : slot < used_in (above κ L).count (cover ((p + 15) / 16)) =
        slot_used (above κ L).count ((p + 15) / 16) place.within f in
        let e : 16 * cover ((p + 15) / 16) + slot ≡ cover p = slot_cover ((p + 15) / 16) f in
        let due : kind parent - 1 ≡ κ = ap (λ x. x - 1) (kind_block (suc κ) (above κ L) (cover ((p + 15) / 16))) ∙ omega arith in
        answer_on parent i left (suc d) (along path i left d k parent) slot inner (last ∙ slot_count ((p + 15) / 16) f) ∙
        rw (
          due,
          number_block (above κ L) (above_sized κ L) (suc κ) (cover ((p + 15) / 16)) in_row slot n,
          value_block (above κ L) (above_sized κ L) (suc κ) (cover ((p + 15) / 16)) in_row slot n,
          e,
        )
