-- An entry as it is written, and the entries one after the other.
use Prim.Native.Nat.{ℕ, ◌+◌, ◌-◌, ◌*◌, ◌<◌}
use mathlib.Core.List.{List, ◌∷◌, ◌++◌, append-nil}
use mathlib.Core.Path.{◌≡◌, sym, ap, ◌∙◌}
use native.Mathlib.Omega.{arith}
use lib.Dec.{eqb}
use lib.ListN.{length, get_or, take, drop, replicate, length-drop, length-replicate}
use lib.Seq.{take_all, length-take-le}
use borrow.Author.Tests.{eq-eqb, ne_eqb}
use borrow.Rule.Slice.PartMut.{put_mid}
use Rattle.search.specs.Search.{first}
use Rattle.search.proofs.Place.{was_first, was_none}
use Rattle.std.specs.Prelude.{Option, None, Some}
use Rattle.layout.proofs.Copied.{copied_over}
use Rattle.layout.proofs.Values.{length_values}
use Rattle.itable.specs.Block.{size, kind, used, number, value}
use Rattle.itable.specs.Many.{total, entry_size, entry_bytes}
use Rattle.itable.specs.Internal.Many.{entries_from, entry_at}
use Rattle.itable.proofs.Many.{entries_more, entry_at_long}
use Rattle.itable.proofs.Place.{entry_first, entry_past}
use Rattle.block.proofs.Lent.{mid_length, mid_next}
use Rattle.many.specs.Internal.Judged.{entry_to}

-- What a block says of i: nothing where it is no leaf; in a leaf by slot j, the first of the u used ones with the number, if any is.
module _ (b : List ℕ) (i : ℕ) where
  pub no_leaf : (kind b ≡ 3 → ⊥) → replicate entry_size 0 ≡ entry_bytes (entry_at b i)
  unfolding entry_at
  no_leaf h = rw (ne_eqb (kind b) 3 h)

  module _ (k : kind b ≡ 3) (o : Option ℕ) (eo : o ≡ first (λ m. eqb (number b m) i) 0 (used b)) where
    pub no_slot : o ≡ None → replicate entry_size 0 ≡ entry_bytes (entry_at b i)
    unfolding entry_at
    no_slot z =
        let w = was_none _ 0 _ (sym eo ∙ z) in rw (eq-eqb (kind b) 3 k, entry_past (number b) (value b) (used b) i _ (sym w) (omega arith))

    pub in_slot :
        {j : ℕ} (v after : List ℕ) → o ≡ Some j → v ≡ value b j → after ≡ take (length v) v ++ drop (length v) (replicate 32 0) →
        put_mid 1 32 (1 ∷ replicate 32 0) after ≡ entry_bytes (entry_at b i)
    unfolding entry_at
    in_slot {j} v after s e f =
        let w = was_first _ 0 _ (sym eo ∙ s) in
        let n : length v ≡ 32 = ap length e ∙ length_values _ 0 32 in
        let g : after ≡ value b j = f ∙ (copied_over v (replicate 32 0) (omega (arith, length-replicate {A = ℕ} 32 0)) ∙ e) in
        rw (g, append-nil, eq-eqb (kind b) 3 k, entry_first (number b) (value b) (used b) i j (sym w.0) (omega (arith, w.1)))

-- The entries of the first q questions, which have `first` blocks: one more, and all.
module _ (numbers counts paths : List ℕ) where
  pub written_next :
      (out e after : List ℕ) (first n q : ℕ) → length out ≡ entry_size * length numbers → q < length numbers → first ≡ total (take q counts) →
      n ≡ get_or counts q 0 → take (entry_size * q) out ≡ entries_from (entry_to numbers counts paths) 0 q →
      e ≡
      entry_bytes
      (entry_at (take (size * (first + n - 1) + size - size * (first + n - 1)) (drop (size * (first + n - 1)) paths)) (get_or numbers q 0)) →
      after ≡ take (length e) e ++ drop (length e) (take (entry_size * q + entry_size - entry_size * q) (drop (entry_size * q) out)) →
      (length (put_mid (entry_size * q) (entry_size * q + entry_size - entry_size * q) out after) ≡ length out) ×
      (take (entry_size * (q + 1)) (put_mid (entry_size * q) (entry_size * q + entry_size - entry_size * q) out after) ≡
      entries_from (entry_to numbers counts paths) 0 (q + 1))
  written_next out e after first n q l h f g t s c =
      let w : size * (first + n - 1) + size - size * (first + n - 1) ≡ size = omega arith in
      let z : entry_size * q + entry_size - entry_size * q ≡ entry_size = omega arith in
      let s' : e ≡ entry_bytes (entry_to numbers counts paths q) = rw (w, f, g) at s in
      let m : length e ≡ entry_size = ap length s' ∙ entry_at_long _ (get_or numbers q 0) in
      let c' : after ≡ take (length e) e ++ drop (length e) (take entry_size (drop (entry_size * q) out)) = rw z at c in
      let d : length (take entry_size (drop (entry_size * q) out)) ≡ entry_size =
      length-take-le entry_size (drop (entry_size * q) out) (simp length-drop (omega arith)) in
      let k : after ≡ e = c' ∙ copied_over e (take entry_size (drop (entry_size * q) out)) (omega arith) in
      let k' : length after ≡ entry_size = ap length k ∙ m in
      let a : entry_size * (q + 1) ≡ entry_size * q + entry_size = omega arith in (
        mid_length (entry_size * q) entry_size out after k' (omega arith),
        rw (
          a,
          mid_next (entry_size * q) entry_size out after k' (omega arith),
          t,
          k,
          s',
          entries_more (entry_to numbers counts paths) q,
        ),
      )

  pub written_all :
      (out : List ℕ) (q : ℕ) → length out ≡ entry_size * length numbers → q ≡ length numbers →
      take (entry_size * q) out ≡ entries_from (entry_to numbers counts paths) 0 q →
      out ≡ entries_from (entry_to numbers counts paths) 0 (length numbers)
  written_all out q l h t = sym (take_all (entry_size * q) out (omega arith)) ∙ (t ∙ ap (entries_from _ 0) h)
