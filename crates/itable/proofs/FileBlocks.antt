-- The laws of a file's blocks and hashes: what each test of them decides, over the number of hashes and the place of the first. They are cited for
-- sixteen hashes at 5, in the inode of kind 6 and in the large one, and for 128 at 1, in the indirect block.
use Prim.Native.Nat.{ℕ, ◌+◌, ◌-◌, ◌*◌, ◌/◌, ◌%◌, ◌≤◌, ◌<◌}
use mathlib.Core.Bool.{Bool, true, ◌&&◌, and-eq-true_iff}
use mathlib.Core.List.{List}
use mathlib.Core.Logic.Iff
use mathlib.Core.Logic.{◌↔◌}
use mathlib.Core.Path.{◌≡◌}
use native.Mathlib.Decide.{dec_le}
use native.Mathlib.Omega.{arith}
use lib.Dec.{ltb, eqb}
use lib.ListN.{length, get_or}
use borrow.Author.Tests.{leb-true, ltb-true, eqb-true, le-leb, lt-ltb, eq-eqb}
use Rattle.layout.proofs.Zeros.{zeros_mean}
use Rattle.itable.specs.Inode.{file_blocks, block_length, rest_zero, holds, file_length}
use Rattle.itable.specs.InodeMeaning.{RestZero, HasBlock, BlockSize}

-- Equal numbers, and two tests that both pass.
pub equal_means : (x y : ℕ) → (eqb x y ≡ true) ↔ (x ≡ y)
equal_means x y = (eqb-true x y, eq-eqb x y)

pub both_mean : {P Q : Type 0} (a b : Bool) → (a ≡ true) ↔ P → (b ≡ true) ↔ Q → ((a && b) ≡ true) ↔ (P × Q)
both_mean a b p q = Iff.trans (and-eq-true_iff a b) (Iff.and p q)

-- A length that n hashes can name.
pub holds_means : (n len : ℕ) → (holds n len ≡ true) ↔ (len ≤ 8192 * n)
unfolding holds
holds_means n len = (leb-true len (8192 * n), le-leb len (8192 * n))

-- Bytes that are zero, of each of n hashes from the last block's on.
pub rest_means : (b : List ℕ) (at n len : ℕ) → (rest_zero b at n (file_blocks len) ≡ true) ↔ RestZero b at n len
unfolding rest_zero
rest_means b at n len =
    let m : ℕ = file_blocks len in
    let z = zeros_mean b (at + 32 * m) (32 * (n - m)) in (
      λ e k j l h i.
          let x : at + 32 * m + (32 * (k - m) + j) ≡ at + 32 * k + j = omega arith in rw x at (z.0 e (32 * (k - m) + j) (omega arith)),
      λ f.
          z.1
          (λ j l.
          let x : at + 32 * (m + j / 32) + j % 32 ≡ at + 32 * m + j = omega arith in
          rw x at (f (m + j / 32) (j % 32) (omega arith) (omega arith) (omega arith))),
    )

-- The form that the inodes of all kinds share, over the kind and the most blocks of a file.
module _ (inode : List ℕ) (κ most : ℕ) where
  abbrev len : ℕ
  len = file_length inode

  pub fits_means :
      ((eqb (get_or inode 0 0) κ && (holds most len && rest_zero inode 5 16 (file_blocks len))) ≡ true) ↔
      ((get_or inode 0 0 ≡ κ) × ((len ≤ 8192 * most) × RestZero inode 5 16 len))
  fits_means =
      let rest : Bool = rest_zero inode 5 16 (file_blocks len) in
      both_mean (eqb (get_or inode 0 0) κ) (holds most len && rest) (equal_means (get_or inode 0 0) κ)
      (both_mean (holds most len) rest (holds_means most len) (rest_means inode 5 16 len))

-- The file's number of blocks and the length of one of them.
pub has_block : (len k : ℕ) → (ltb k (file_blocks len) ≡ true) ↔ (8192 * k < len)
has_block len k = (
  λ e. let l = ltb-true k (file_blocks len) e in omega arith,
  λ h. lt-ltb k (file_blocks len) (omega arith),
)

pub size_means :
    (inode : List ℕ) (k : ℕ) (block : List ℕ) → HasBlock inode k →
    (eqb (length block) (block_length (file_length inode) k) ≡ true) ↔ BlockSize inode k block
size_means inode k block has = (
  λ e.
      let l : length block ≡ block_length (file_length inode) k = eqb-true (length block) (block_length (file_length inode) k) e in
      record { whole = λ h. omega arith; rest = λ h. omega arith },
  λ w.
      elim (dec_le (8192 * k + 8192) (file_length inode)) [
        | yes h ↦ eq-eqb (length block) (block_length (file_length inode) k) (omega (arith, w.whole h))
        | no h ↦ eq-eqb (length block) (block_length (file_length inode) k) (omega (arith, w.rest (omega arith)))
      ],
)
