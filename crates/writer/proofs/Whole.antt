-- The whole buffer: each inner row over the row below, and the blocks of the table with what follows them.
use Prim.Native.Nat.{ℕ, ◌+◌, ◌*◌, ◌≤◌, ◌<◌}
use mathlib.Core.Bool.{cond}
use mathlib.Core.List.{List, [], ◌++◌, append_assoc, append-nil}
use mathlib.Core.Path.{◌≡◌, sym, ap, ◌∙◌}
use native.Mathlib.Nat.{zero-add, add-zero}
use native.Mathlib.Omega.{arith}
use lib.Dec.{ltb}
use lib.ListN.{drop}
use lib.Seq.{drop-drop}
use Rattle.std.proofs.lemmas.Bool.Decides.{nat_tests}
use Rattle.layout.specs.Bytes.{part, parts}
use Rattle.sha256.specs.Sha256.{sha256}
use Rattle.itable.specs.Block.{size, number}
use Rattle.itable.specs.Table.{Level, wide, used_in, block, above, row, blocks, written}
use Rattle.itable.proofs.Block.{Sized, above_sized, number_block}
use Rattle.itable.proofs.Rows.{length_row, row_part}
use Rattle.writer.specs.Internal.Children.{children}
use Rattle.writer.proofs.Blocks.{block_cong, row_cong}

-- How many blocks stand over a row of n blocks.
abbrev pub over : ℕ → ℕ
over n = cond (ltb 1 n) (wide n) 0

over_most : (n : ℕ) → over n ≤ wide n
over_most n = grind (arith, nat_tests)

over_some : (n : ℕ) → 0 < over n → (1 < n) × (over n ≡ wide n)
over_some n h = (grind (arith, nat_tests), grind (arith, nat_tests))

-- The blocks of all rows.
pub rows_are : (n l f v : ℕ) → l ≡ wide n → f ≡ over l → v ≡ over f → l + f + v ≡ blocks n
unfolding blocks
rows_are n l f v el ef ev = rw (ev, ef, el)

-- What is written over the first n blocks of a row, as they are read back, is the row over it.
module _ (κ : ℕ) (L : Level) (s : Sized L) (n : ℕ) (most : n ≤ wide L.count) where
  child : (i : ℕ) → i < n → part size (row κ L 0 n) (0 + i) ≡ block κ L i
  child i l =
      ap (part size (row κ L 0 n)) (zero-add i) ∙
      (ap (λ z. part size z i) (sym (append-nil (row κ L 0 n))) ∙
      (row_part κ L s 0 n i [] l (omega arith) ∙ ap (block κ L) (zero-add i)))

  row_over :
      (κ' w : ℕ) → (0 < w → (n ≡ wide L.count) × (0 < L.count)) → row κ' (children (row κ L 0 n) 0 n) 0 w ≡ row κ' (above κ L) 0 w
  unfolding children above
  row_over κ' w all =
      row_cong κ' (children (row κ L 0 n) 0 n) (above κ L) 0 w
      (λ k a b.
      let A = all (omega arith) in
      block_cong κ' (children (row κ L 0 n) 0 n) (above κ L) k k (ap (λ m. used_in m k) A.0)
      (λ j l.
      let i : 16 * k + j < n = omega arith in (
        ap (λ b. number b 0) (child (16 * k + j) i) ∙
            (number_block L s κ (16 * k + j) (omega arith) 0 (omega arith) ∙ ap L.number (add-zero (16 * (16 * k + j)))),
        ap sha256 (child (16 * k + j) i),
      )))

  -- The same of a buffer that the row fills.
  pub inner_row :
      (κ' w : ℕ) → (0 < w → (n ≡ wide L.count) × (0 < L.count)) → (below after : List ℕ) (m : ℕ) → below ≡ row κ L 0 n → m ≡ w →
      after ≡ row κ' (children below 0 (parts size below)) 0 m → after ≡ row κ' (above κ L) 0 w
  inner_row κ' w all below after m eb em e =
      let c : parts size (row κ L 0 n) ≡ n = rw (length_row κ L s 0 n (omega arith)) (omega arith) in
      e ∙ rw (eb, em, c) (row_over κ' w all)

-- The table's blocks, by how many are in each row.
module _ (T : Level) (s : Sized T) (o : List ℕ) (l f v : ℕ) (el : l ≡ wide T.count) (ef : f ≡ over l) (ev : v ≡ over f) where
  pub table_is : written T ≡ row 3 T 0 l ++ (row 4 (above 3 T) 0 f ++ row 5 (above 4 (above 3 T)) 0 v)
  unfolding written
  table_is = rw (ev, ef, el)

  pub whole_is :
      (a b c rest : List ℕ) (m n : ℕ) → a ≡ row 3 T 0 l → m ≡ f → b ≡ row 4 (children a 0 (parts size a)) 0 m → n ≡ v →
      c ≡ row 5 (children b 0 (parts size b)) 0 n → rest ≡ drop (642 * v) (drop (642 * f) (drop (642 * l) o)) →
      a ++ (b ++ (c ++ rest)) ≡ written T ++ drop (642 * (l + f + v)) o
  unfolding above
  whole_is a b c rest m n ea em eb en ec er =
      let four : b ≡ row 4 (above 3 T) 0 f =
      inner_row 3 T s l (omega arith) 4 f (λ h. let k = over_some l (rw ef at h) in (el, omega arith)) a b m ea em eb in
      let few : f ≤ wide (wide T.count) = rw (ef, ← el) (over_most l) in
      let five : c ≡ row 5 (above 4 (above 3 T)) 0 v =
      inner_row 4 (above 3 T) (above_sized 3 T) f few 5 v
      (λ h.
      let k = over_some f (rw ev at h) in
      let j = over_some l (omega arith) in (ef ∙ (j.1 ∙ ap wide el), omega arith))
      b c n four en ec in
      let x : 642 * l + 642 * f ≡ 642 * (l + f) = omega arith in
      let y : 642 * (l + f) + 642 * v ≡ 642 * (l + f + v) = omega arith in
      let d : drop (642 * v) (drop (642 * f) (drop (642 * l) o)) ≡ drop (642 * (l + f + v)) o =
      ap (drop (642 * v)) (drop-drop (642 * f) (642 * l) o) ∙ rw (x, drop-drop (642 * v) (642 * (l + f)) o, y) in
      rw (ea, four, five, er, d, table_is, append_assoc (row 3 T 0 l), append_assoc (row 4 (above 3 T) 0 f))
