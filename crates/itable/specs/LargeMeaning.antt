-- What the check of a large file's block means, with no test and no search: each condition that it judges, in its order, and each way to be refused.
-- The file's length and the blocks it makes are those of InodeMeaning.
use Rattle.std.specs.Prelude.{ℕ, ◌+◌, ◌-◌, ◌*◌, ◌≤◌, ◌<◌, List, [], ◌↔◌, ◌≡◌, length, get_or}
use Rattle.refusal.specs.Answer.{accepted, refused}
use Rattle.sha256.specs.Sha256.{sha256}
use Rattle.itable.specs.Inode.{hash_at, file_length, Span}
use Rattle.itable.specs.InodeMeaning.{Named, RestZero, HasBlock, BlockSize}
use Rattle.itable.specs.LargeInode.{large_size, indirect_size, large_check}

-- 2: handle and inode are of the stated lengths.
abbrev pub LargeSizes : List ℕ → List ℕ → Type 0
LargeSizes handle inode = (length handle ≡ 32) × (length inode ≡ large_size)

-- 3: at most 1,179,648 bytes; "Hashes beyond the last block are zero"; "The indirect block's hash is zero exactly if sixteen blocks suffice."
pub record LargeFormed (inode : List ℕ) : Type 0 where
  pub kind_eleven : get_or inode 0 0 ≡ 11
  pub at_most : file_length inode ≤ 1179648
  pub rest_is_zero : RestZero inode 5 16 (file_length inode)
  pub zero_exactly_when : ((j : ℕ) → j < 32 → get_or inode (517 + j) 0 ≡ 0) ↔ (file_length inode ≤ 131072)

-- 2, at place 2: "A direct read is given no indirect block"; any other read is given a whole one.
pub record IndirectSize (k : ℕ) (indirect : List ℕ) : Type 0 where
  pub direct : k < 16 → indirect ≡ []
  pub whole : 16 ≤ k → length indirect ≡ indirect_size

-- 8, at place 2: the indirect block's hash is the one behind the inode's sixteen.
abbrev pub IndirectNamed : List ℕ → ℕ → List ℕ → Type 0
IndirectNamed inode k indirect = 16 ≤ k → sha256 indirect ≡ hash_at inode 5 16

-- 3, at place 2: it is of kind 12, and its hashes beyond the last block of this file are zero. They name what lies behind 131,072 bytes.
pub record IndirectFormed (inode : List ℕ) (k : ℕ) (indirect : List ℕ) : Type 0 where
  pub kind_twelve : 16 ≤ k → get_or indirect 0 0 ≡ 12
  pub rest_is_zero : 16 ≤ k → RestZero indirect 1 128 (file_length inode - 131072)

-- 8: the block's hash is the inode's hash k, or from block 16 on the indirect block's hash k - 16.
pub record LargeNamed (inode : List ℕ) (k : ℕ) (indirect block : List ℕ) : Type 0 where
  pub by_inode : k < 16 → sha256 block ≡ hash_at inode 5 k
  pub by_indirect : 16 ≤ k → sha256 block ≡ hash_at indirect 1 (k - 16)

-- The conditions up to each one, in the order in which they are tried: "as for the block check, with the indirect block's 2, 8 and 3 between 10 and
-- the block's 2".
abbrev pub ToNamed : List ℕ → List ℕ → Type 0
ToNamed handle inode = LargeSizes handle inode × Named handle inode

abbrev pub ToFormed : List ℕ → List ℕ → Type 0
ToFormed handle inode = ToNamed handle inode × LargeFormed inode

abbrev pub ToBlock : List ℕ → List ℕ → ℕ → Type 0
ToBlock handle inode k = ToFormed handle inode × HasBlock inode k

abbrev pub ToIndirectSize : List ℕ → List ℕ → ℕ → List ℕ → Type 0
ToIndirectSize handle inode k indirect = ToBlock handle inode k × IndirectSize k indirect

abbrev pub ToIndirectNamed : List ℕ → List ℕ → ℕ → List ℕ → Type 0
ToIndirectNamed handle inode k indirect = ToIndirectSize handle inode k indirect × IndirectNamed inode k indirect

abbrev pub ToIndirect : List ℕ → List ℕ → ℕ → List ℕ → Type 0
ToIndirect handle inode k indirect = ToIndirectNamed handle inode k indirect × IndirectFormed inode k indirect

abbrev pub ToBlockSize : List ℕ → List ℕ → ℕ → List ℕ → List ℕ → Type 0
ToBlockSize handle inode k indirect block = ToIndirect handle inode k indirect × BlockSize inode k block

abbrev pub LargeConditions : List ℕ → List ℕ → ℕ → List ℕ → List ℕ → Type 0
LargeConditions handle inode k indirect block = ToBlockSize handle inode k indirect block × LargeNamed inode k indirect block

-- Why the check is refused with a number and two positions: all earlier conditions hold and this one does not. The file block is place 1, the
-- indirect block place 2.
pub data WhyLarge (handle inode : List ℕ) (k : ℕ) (indirect block : List ℕ) : ℕ → ℕ → ℕ → Type 0 where
  lengths : (LargeSizes handle inode → ⊥) → WhyLarge handle inode k indirect block 2 0 0
  not_named : LargeSizes handle inode → (Named handle inode → ⊥) → WhyLarge handle inode k indirect block 8 0 0
  not_formed : ToNamed handle inode → (LargeFormed inode → ⊥) → WhyLarge handle inode k indirect block 3 0 0
  no_block : ToFormed handle inode → (HasBlock inode k → ⊥) → WhyLarge handle inode k indirect block 10 0 0
  indirect_length : ToBlock handle inode k → (IndirectSize k indirect → ⊥) → WhyLarge handle inode k indirect block 2 2 0
  indirect_not_named :
      ToIndirectSize handle inode k indirect → (IndirectNamed inode k indirect → ⊥) → WhyLarge handle inode k indirect block 8 2 0
  indirect_not_formed :
      ToIndirectNamed handle inode k indirect → (IndirectFormed inode k indirect → ⊥) → WhyLarge handle inode k indirect block 3 2 0
  length_of_block : ToIndirect handle inode k indirect → (BlockSize inode k block → ⊥) → WhyLarge handle inode k indirect block 2 1 0
  block_not_named :
      ToBlockSize handle inode k indirect block → (LargeNamed inode k indirect block → ⊥) → WhyLarge handle inode k indirect block 8 1 0

-- Accepted with the file offset 8,192 x k and the length of the block, exactly where all conditions hold; refused exactly for these reasons.
abbrev pub LargeCheckMeans : Type 0
LargeCheckMeans =
    (handle inode : List ℕ) (k : ℕ) (indirect block : List ℕ) →
    ((a : Span) →
    (large_check handle inode k indirect block ≡ accepted a) ↔
    (LargeConditions handle inode k indirect block × (a.offset ≡ 8192 * k) × (a.size ≡ length block))) ×
    ((n p q : ℕ) → (large_check handle inode k indirect block ≡ refused n p q) ↔ WhyLarge handle inode k indirect block n p q)
