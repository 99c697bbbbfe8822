-- Where the blocks of a table stand: each row's from a place on, and the root last.
use Prim.Native.Nat.{ℕ, zero, suc, ◌+◌, ◌-◌, ◌*◌, ◌≤◌, ◌<◌}
use mathlib.Core.Bool.{Bool, true, false, cond}
use mathlib.Core.List.{List, [], ◌++◌, append_assoc, append-nil}
use mathlib.Core.Path.{◌≡◌, refl, sym, ap, ◌∙◌}
use native.Mathlib.Decide.{dec_le}
use native.Mathlib.Nat.{add-zero, zero-add}
use native.Mathlib.Omega.{arith}
use lib.Dec.{ltb}
use lib.ListN.{length, length-append}
use borrow.Author.Tests.{lt-ltb, le-ltb}
use Rattle.layout.specs.Bytes.{part}
use Rattle.layout.proofs.Parts.{part_front, part_behind, part_behind_all}
use Rattle.itable.specs.Block.{size}
use Rattle.itable.specs.Table.{Level, wide, block, above, row, leaves, fours, fives, blocks, written}
use Rattle.itable.proofs.Block.{Sized, above_sized, length_block}

module _ (κ : ℕ) (L : Level) (s : Sized L) where
  pub length_row : (a m : ℕ) → a + m ≤ wide L.count → length (row κ L a m) ≡ 642 * m
  unfolding row
  length_row a zero h = refl
  length_row a (suc m) h =
      simp (length-append, length_block L s κ a (omega arith), length_row (suc a) m (omega arith)) (omega arith)

  pub row_part :
      (a m k : ℕ) (z : List ℕ) → k < m → a + m ≤ wide L.count → part size (row κ L a m ++ z) k ≡ block κ L (a + k)
  unfolding row
  row_part a zero k z h l = absurd (omega arith)
  row_part a (suc m) zero z h l =
      rw (append_assoc, part_front size (block κ L a) (row κ L (suc a) m ++ z) (length_block L s κ a (omega arith)), add-zero)
  row_part a (suc m) (suc k) z h l =
      let e : a + suc k ≡ suc a + k = omega arith in
      rw (append_assoc, part_behind size (block κ L a) (row κ L (suc a) m ++ z) k (length_block L s κ a (omega arith)), e)
      (row_part (suc a) m k z (omega arith) (omega arith))

-- The blocks of this kind over L stand from `base` on among n blocks end to end.
pub record Stands (bytes : List ℕ) (n κ : ℕ) (L : Level) (base : ℕ) : Type 0 where
  pub at : (k : ℕ) → k < wide L.count → part size bytes (base + k) ≡ block κ L k
  pub below : (k : ℕ) → k < wide L.count → base + k < n

-- The numbers of blocks, by how many there are below.
pub some_fours : (n : ℕ) → 1 < leaves n → fours n ≡ wide (leaves n)
some_fours n h = rw (lt-ltb 1 (leaves n) h)

pub no_fours : (n : ℕ) → leaves n ≤ 1 → fours n ≡ 0
no_fours n h = rw (le-ltb 1 (leaves n) h)

pub some_fives : (n : ℕ) → 1 < fours n → fives n ≡ wide (fours n)
some_fives n h = rw (lt-ltb 1 (fours n) h)

pub no_fives : (n : ℕ) → fours n ≤ 1 → fives n ≡ 0
no_fives n h = rw (le-ltb 1 (fours n) h)

fours_most : (n : ℕ) → fours n ≤ wide (leaves n)
fours_most n = go (ltb 1 (leaves n))
  where
    go : (b : Bool) → cond b (wide (leaves n)) 0 ≤ wide (leaves n)
    go true = omega arith
    go false = omega arith

fives_most : (n : ℕ) → fives n ≤ wide (fours n)
fives_most n = go (ltb 1 (fours n))
  where
    go : (b : Bool) → cond b (wide (fours n)) 0 ≤ wide (fours n)
    go true = omega arith
    go false = omega arith

module _ (T : Level) (s : Sized T) where
  abbrev n : ℕ
  n = T.count

  three_row : length (row 3 T 0 (leaves n)) ≡ size * leaves n
  three_row = length_row 3 T s 0 (leaves n) (omega arith)

  four_row : length (row 4 (above 3 T) 0 (fours n)) ≡ size * fours n
  unfolding above
  four_row = length_row 4 (above 3 T) (above_sized 3 T) 0 (fours n) (omega (arith, fours_most n))

  five_row : 1 < leaves n → length (row 5 (above 4 (above 3 T)) 0 (fives n)) ≡ size * fives n
  unfolding above
  five_row h =
      length_row 5 (above 4 (above 3 T)) (above_sized 4 (above 3 T)) 0 (fives n)
      (omega (arith, fives_most n, some_fours n h))

  pub leaves_stand : Stands (written T) (blocks n) 3 T 0
  unfolding written blocks
  leaves_stand =
      record {
        at = λ k h. rw (zero-add k) (row_part 3 T s 0 (leaves n) k _ h (omega arith) ∙ ap (block 3 T) (zero-add k));
        below = λ k h. omega arith;
      }

  pub fours_stand : 1 < leaves n → Stands (written T) (blocks n) 4 (above 3 T) (leaves n)
  unfolding written blocks above
  fours_stand g =
      let e : fours n ≡ wide (leaves n) = some_fours n g in
      record {
        at = λ k h.
            part_behind_all size (row 3 T 0 (leaves n)) _ (leaves n) k three_row ∙
            (row_part 4 (above 3 T) (above_sized 3 T) 0 (fours n) k _ (omega arith) (omega arith) ∙ ap (block 4 (above 3 T)) (zero-add k));
        below = λ k h. omega arith;
      }

  pub fives_stand : 1 < leaves n → 1 < fours n → Stands (written T) (blocks n) 5 (above 4 (above 3 T)) (leaves n + fours n)
  unfolding written blocks above
  fives_stand g f =
      let e : fours n ≡ wide (leaves n) = some_fours n g in
      let m : fives n ≡ wide (fours n) = some_fives n f in
      record {
        at = λ k h.
            let a : leaves n + fours n + k ≡ leaves n + (fours n + k) = omega arith in
            ap (part size (written T)) a ∙
            (part_behind_all size (row 3 T 0 (leaves n)) _ (leaves n) (fours n + k) three_row ∙
            (part_behind_all size (row 4 (above 3 T) 0 (fours n)) _ (fours n) k four_row ∙
            (ap (λ z. part size z k) (sym (append-nil (row 5 (above 4 (above 3 T)) 0 (fives n)))) ∙
            (row_part 5 (above 4 (above 3 T)) (above_sized 4 (above 3 T)) 0 (fives n) k [] (omega arith) (omega arith) ∙
            ap (block 5 (above 4 (above 3 T))) (zero-add k)))));
        below = λ k h. omega arith;
      }

  five_few : leaves n ≤ 1 → fives n ≡ 0
  five_few h = no_fives n (let e : fours n ≡ 0 = no_fours n h in omega arith)

  pub length_written : length (written T) ≡ size * blocks n
  unfolding written blocks row
  length_written =
      elim (dec_le (leaves n) 1) [
        | yes h ↦ rw (five_few h) (simp (length-append, three_row, four_row) (omega arith))
        | no h ↦ simp (length-append, three_row, four_row, five_row (omega arith)) (omega arith)
      ]

  -- The last block, which is the root.
  pub root_three : leaves n ≤ 1 → part size (written T) (blocks n - 1) ≡ block 3 T 0
  unfolding blocks
  root_three h =
      let e : leaves n + fours n + fives n - 1 ≡ 0 + 0 = omega (arith, no_fours n h, five_few h) in
      ap (part size (written T)) e ∙ leaves_stand.at 0 (omega arith)

  pub root_four : 1 < leaves n → fours n ≤ 1 → part size (written T) (blocks n - 1) ≡ block 4 (above 3 T) 0
  unfolding blocks above
  root_four h l =
      let e : leaves n + fours n + fives n - 1 ≡ leaves n + 0 = omega (arith, some_fours n h, no_fives n l) in
      ap (part size (written T)) e ∙ (fours_stand h).at 0 (omega arith)

  pub root_five : n ≤ 4096 → 1 < leaves n → 1 < fours n → part size (written T) (blocks n - 1) ≡ block 5 (above 4 (above 3 T)) 0
  unfolding blocks above
  root_five few h l =
      let e : leaves n + fours n + fives n - 1 ≡ leaves n + fours n + 0 = omega (arith, some_fours n h, some_fives n l) in
      ap (part size (written T)) e ∙ (fives_stand h l).at 0 (omega arith)
