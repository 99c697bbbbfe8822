-- What the check of a file's block means, with no test and no search: each condition that it judges, in its order, and each way to be refused.
use Rattle.std.specs.Prelude.{ℕ, ◌+◌, ◌*◌, ◌≤◌, ◌<◌, List, ◌↔◌, ◌≡◌, length, get_or}
use Rattle.refusal.specs.Answer.{accepted, refused}
use Rattle.sha256.specs.Sha256.{sha256}
use Rattle.itable.specs.Inode.{inode_size, file_length, hash_at, Span, block_check}

-- 2: handle and inode are of the stated lengths.
abbrev pub Sizes : List ℕ → List ℕ → Type 0
Sizes handle inode = (length handle ≡ 32) × (length inode ≡ inode_size)

-- 8: the inode's hash is the handle.
abbrev pub Named : List ℕ → List ℕ → Type 0
Named handle inode = sha256 inode ≡ handle

-- "Hashes beyond the last block are zero", of the n hashes that stand from a place on: each byte of hash k, where the file ends before block k.
abbrev pub RestZero : List ℕ → ℕ → ℕ → ℕ → Type 0
RestZero b at n len = (k j : ℕ) → k < n → len ≤ 8192 * k → j < 32 → get_or b (at + 32 * k + j) 0 ≡ 0

-- 3: "An inode's length is at most 131,072." "Hashes beyond the last block are zero."
pub record WellFormed (inode : List ℕ) : Type 0 where
  pub kind_six : get_or inode 0 0 ≡ 6
  pub at_most : file_length inode ≤ 131072
  pub rest_is_zero : RestZero inode 5 16 (file_length inode)

-- 10: the file goes on after k blocks of 8,192 bytes.
abbrev pub HasBlock : List ℕ → ℕ → Type 0
HasBlock inode k = 8192 * k < file_length inode

-- 2: "Its blocks hold 8,192 bytes each, the last one the rest (1 to 8,192)."
pub record BlockSize (inode : List ℕ) (k : ℕ) (block : List ℕ) : Type 0 where
  pub whole : 8192 * k + 8192 ≤ file_length inode → length block ≡ 8192
  pub rest : file_length inode < 8192 * k + 8192 → 8192 * k + length block ≡ file_length inode

-- 8: the block's hash is the inode's hash k.
abbrev pub BlockNamed : List ℕ → ℕ → List ℕ → Type 0
BlockNamed inode k block = sha256 block ≡ hash_at inode 5 k

-- The conditions up to each one, in the order in which they are tried: "Order: 2 for handle and inode, 8 for the inode, 3, 10, 2 for the
-- block's length, 8 for the block."
abbrev pub ToNamed : List ℕ → List ℕ → Type 0
ToNamed handle inode = Sizes handle inode × Named handle inode

abbrev pub ToFormed : List ℕ → List ℕ → Type 0
ToFormed handle inode = ToNamed handle inode × WellFormed inode

abbrev pub ToBlock : List ℕ → List ℕ → ℕ → Type 0
ToBlock handle inode k = ToFormed handle inode × HasBlock inode k

abbrev pub ToBlockSize : List ℕ → List ℕ → ℕ → List ℕ → Type 0
ToBlockSize handle inode k block = ToBlock handle inode k × BlockSize inode k block

abbrev pub AllConditions : List ℕ → List ℕ → ℕ → List ℕ → Type 0
AllConditions handle inode k block = ToBlockSize handle inode k block × BlockNamed inode k block

-- Why a block check is refused with a number and two positions: all earlier conditions hold and this one does not. The file block is place 1.
pub data Why (handle inode : List ℕ) (k : ℕ) (block : List ℕ) : ℕ → ℕ → ℕ → Type 0 where
  lengths : (Sizes handle inode → ⊥) → Why handle inode k block 2 0 0
  not_named : Sizes handle inode → (Named handle inode → ⊥) → Why handle inode k block 8 0 0
  not_formed : ToNamed handle inode → (WellFormed inode → ⊥) → Why handle inode k block 3 0 0
  no_block : ToFormed handle inode → (HasBlock inode k → ⊥) → Why handle inode k block 10 0 0
  length_of_block : ToBlock handle inode k → (BlockSize inode k block → ⊥) → Why handle inode k block 2 1 0
  block_not_named : ToBlockSize handle inode k block → (BlockNamed inode k block → ⊥) → Why handle inode k block 8 1 0

-- "Accepted: the file offset 8,192 x k and the length" of the block, exactly where all conditions hold; refused exactly for these reasons.
abbrev pub BlockCheckMeans : Type 0
BlockCheckMeans =
    (handle inode : List ℕ) (k : ℕ) (block : List ℕ) →
    ((a : Span) →
    (block_check handle inode k block ≡ accepted a) ↔
    (AllConditions handle inode k block × (a.offset ≡ 8192 * k) × (a.size ≡ length block))) ×
    ((n p q : ℕ) → (block_check handle inode k block ≡ refused n p q) ↔ Why handle inode k block n p q)
