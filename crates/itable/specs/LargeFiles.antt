-- Files that both inodes can name, and one that only the large inode can.
use Rattle.std.specs.Prelude.{ℕ, ◌+◌, ◌≤◌, List, [], ◌∷◌, ◌++◌, ◌↔◌, ◌≡◌, length, get_or, drop, replicate}
use Rattle.refusal.specs.Answer.{accepted}
use Rattle.sha256.specs.Sha256.{sha256}
use Rattle.itable.specs.Inode.{inode_size, file_length, block_check}
use Rattle.itable.specs.LargeInode.{large_check}

-- The 549 bytes with kind 11, the length and hashes of an inode of kind 6, and 32 zeros behind them.
abbrev pub enlarged : List ℕ → List ℕ
enlarged inode = 11 ∷ (drop 1 inode ++ replicate 32 0)

-- Every inode of kind 6, formed well or not, is answered as it is when it is written so, each under its own hash and with no indirect block: for every
-- index and block, refusals and places too.
abbrev pub ShortAlike : Type 0
ShortAlike =
    (inode : List ℕ) → length inode ≡ inode_size → get_or inode 0 0 ≡ 6 → (k : ℕ) (block : List ℕ) →
    large_check (sha256 (enlarged inode)) (enlarged inode) k [] block ≡ block_check (sha256 inode) inode k block

-- The indirect block of a file whose block 16 is this one, and the last.
abbrev pub indirect_of : List ℕ → List ℕ
indirect_of block = 12 ∷ (sha256 block ++ replicate 4064 0)

-- Any 1 to 8,192 bytes are accepted as block 16 of a file of 131,072 and so many bytes, under some inode, indirect block and handle, exactly if the
-- hash of the one indirect block that can name them is not all zero: "The indirect block's hash is zero exactly if sixteen blocks suffice."
abbrev pub SeventeenAccepted : Type 0
SeventeenAccepted =
    (block : List ℕ) → 1 ≤ length block → length block ≤ 8192 →
    ((handle : List ℕ) × (inode : List ℕ) × (indirect : List ℕ) × (file_length inode ≡ 131072 + length block) ×
    (large_check handle inode 16 indirect block ≡ accepted (record { offset = 131072; size = length block }))) ↔
    (sha256 (indirect_of block) ≡ replicate 32 0 → ⊥)
