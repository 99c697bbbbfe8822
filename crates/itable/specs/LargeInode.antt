-- 02's request g), "Firmware images above 128 KiB": the check of a large file's inode, of its indirect block and of one of its blocks. The file is
-- measured as any file is; its hashes stand in two places, sixteen in the inode and 128 in the indirect block.
use Rattle.std.specs.Prelude.{ℕ, ◌-◌, ◌*◌, Bool, cond, ◌&&◌, List, [], ◌∷◌, ◌++◌, ltb, eqb, length, get_or}
use Rattle.std.specs.Bool.{beq}
use Rattle.layout.specs.Strings.{same, zeros}
use Rattle.refusal.specs.Answer.{Answer, accepted}
use Rattle.refusal.specs.Order.{Step, unless, in_order}
use Rattle.sha256.specs.Sha256.{sha256}
use Rattle.itable.specs.Inode.{file_blocks, hash_at, rest_zero, holds, file_length, Span, index_steps, block_steps}

-- "Add inode kind 11, 549 bytes: a length, sixteen direct hashes, then the hash of one indirect block": length and hashes stand where those of kind 6
-- do, and the indirect block's hash behind them, at 517, as hash 16 would.
abbrev pub large_size : ℕ
large_size = 549

-- "The indirect block's hash is zero exactly if sixteen blocks suffice."
abbrev pub zero_exactly : List ℕ → Bool
zero_exactly inode = beq (holds 16 (file_length inode)) (zeros inode 517 32)

-- "so 144 blocks and 1,179,648 bytes. Hashes beyond the last block are zero in both."
unfoldable pub large_formed : List ℕ → Bool
large_formed inode =
    (eqb (get_or inode 0 0) 11 && (holds 144 (file_length inode) && rest_zero inode 5 16 (file_blocks (file_length inode)))) && zero_exactly inode

-- "one indirect block of kind 12, 4,097 bytes, that carries 128 hashes": they name the blocks of the file, which has this length, from the
-- seventeenth on, whichever of them is read.
abbrev pub indirect_size : ℕ
indirect_size = 4097

unfoldable pub indirect_formed : ℕ → List ℕ → Bool
indirect_formed len indirect = eqb (get_or indirect 0 0) 12 && rest_zero indirect 1 128 (file_blocks len - 16)

-- The hash that names block k.
abbrev pub large_hash : List ℕ → ℕ → List ℕ → List ℕ
large_hash inode k indirect = cond (ltb k 16) (hash_at inode 5 k) (hash_at indirect 1 (k - 16))

-- "Refusals: as for the block check, with the indirect block's 2, 8 and 3 between 10 and the block's 2, at place 2." The inode's tests; that of a
-- direct read, of a block that the inode itself names, in a long file too: "A direct read is given no indirect block and is refused with 2 if it
-- is"; and those of the indirect block, for any other block.
unfoldable pub large_inode_steps : List ℕ → List ℕ → List Step
large_inode_steps handle inode =
    unless (eqb (length handle) 32) 2 0 0 ∷
    unless (eqb (length inode) large_size) 2 0 0 ∷
    unless (same (sha256 inode) handle) 8 0 0 ∷ unless (large_formed inode) 3 0 0 ∷ []

unfoldable pub direct_steps : List ℕ → List Step
direct_steps indirect = unless (eqb (length indirect) 0) 2 2 0 ∷ []

unfoldable pub indirect_steps : List ℕ → List ℕ → List Step
indirect_steps inode indirect =
    unless (eqb (length indirect) indirect_size) 2 2 0 ∷
    unless (same (sha256 indirect) (hash_at inode 5 16)) 8 2 0 ∷ unless (indirect_formed (file_length inode) indirect) 3 2 0 ∷ []

-- All of them, in their order, for block k.
unfoldable pub large_steps : List ℕ → List ℕ → ℕ → List ℕ → List ℕ → List Step
large_steps handle inode k indirect block =
    large_inode_steps handle inode ++
    (index_steps (file_length inode) k ++
    (cond (ltb k 16) (direct_steps indirect) (indirect_steps inode indirect) ++
    block_steps (file_length inode) k (large_hash inode k indirect) block))

-- Accepted: the block's offset in the file, and its length.
unfoldable pub large_check : List ℕ → List ℕ → ℕ → List ℕ → List ℕ → Answer Span
large_check handle inode k indirect block =
    in_order (large_steps handle inode k indirect block) (accepted (record { offset = 8192 * k; size = length block }))
