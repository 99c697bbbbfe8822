-- The check of a file's inode and of one of its blocks.
use Rattle.std.specs.Prelude.{ℕ, ◌+◌, ◌-◌, ◌*◌, ◌/◌, min, Bool, ◌&&◌, List, [], ◌∷◌, leb, ltb, eqb, length, get_or, take, drop}
use Rattle.layout.specs.Bytes.{four}
use Rattle.layout.specs.Strings.{same, zeros}
use Rattle.refusal.specs.Answer.{Answer, accepted}
use Rattle.refusal.specs.Order.{Step, unless, in_order}
use Rattle.sha256.specs.Sha256.{sha256}

-- "Its blocks hold 8,192 bytes each, the last one the rest (1 to 8,192)": the number of blocks of a file of this length, and the length of
-- block k of them.
abbrev pub file_blocks : ℕ → ℕ
file_blocks len = (len + 8191) / 8192

abbrev pub block_length : ℕ → ℕ → ℕ
block_length len k = min 8192 (len - 8192 * k)

-- Of n hashes that stand from a place on: hash k; those for the first m blocks are used, and "hashes beyond the last block are zero".
abbrev pub hash_at : List ℕ → ℕ → ℕ → List ℕ
hash_at b at k = take 32 (drop (at + 32 * k) b)

unfoldable pub rest_zero : List ℕ → ℕ → ℕ → ℕ → Bool
rest_zero b at n m = zeros b (at + 32 * m) (32 * (n - m))

-- A file that n hashes can name: of 131,072 bytes at most for 16.
unfoldable pub holds : ℕ → ℕ → Bool
holds n len = leb len (8192 * n)

-- An inode is 517 bytes: kind 6, file length (4), sixteen block hashes (32 each).
abbrev pub inode_size : ℕ
inode_size = 517

abbrev pub file_length : List ℕ → ℕ
file_length inode = four inode 1

unfoldable pub well_formed : List ℕ → Bool
well_formed inode =
    eqb (get_or inode 0 0) 6 && (holds 16 (file_length inode) && rest_zero inode 5 16 (file_blocks (file_length inode)))

-- "Accepted: the file offset 8,192 x k and the length" of the block.
pub record Span : Type 0 where
  pub offset : ℕ
  pub size : ℕ

-- "Order: 2 for handle and inode, 8 for the inode, 3, 10, 2 for the block's length, 8 for the block." The inode's tests; that of the index k, by
-- the file's length; and those of the block, by the file's length and the hash that names it. The file block is place 1.
unfoldable pub inode_steps : List ℕ → List ℕ → List Step
inode_steps handle inode =
    unless (eqb (length handle) 32) 2 0 0 ∷
    unless (eqb (length inode) inode_size) 2 0 0 ∷
    unless (same (sha256 inode) handle) 8 0 0 ∷ unless (well_formed inode) 3 0 0 ∷ []

unfoldable pub index_steps : ℕ → ℕ → List Step
index_steps len k = unless (ltb k (file_blocks len)) 10 0 0 ∷ []

unfoldable pub block_steps : ℕ → ℕ → List ℕ → List ℕ → List Step
block_steps len k hash block =
    unless (eqb (length block) (block_length len k)) 2 1 0 ∷ unless (same (sha256 block) hash) 8 1 0 ∷ []

unfoldable pub block_check : List ℕ → List ℕ → ℕ → List ℕ → Answer Span
block_check handle inode k block =
    in_order (inode_steps handle inode)
    (in_order (index_steps (file_length inode) k)
    (in_order (block_steps (file_length inode) k (hash_at inode 5 k) block) (accepted (record { offset = 8192 * k; size = length block }))))
