-- What a block of a large file is read from, and what is told of a block that passes.
use Rattle.std.specs.Prelude.{ℕ, ◌*◌, cond, List, ◌++◌, ltb, length}
use Rattle.refusal.specs.Answer.{Answer, accepted}
use Rattle.refusal.specs.Order.{Step}
use Rattle.itable.specs.Inode.{Span, block_steps}
use Rattle.itable.specs.LargeInode.{large_hash, direct_steps, indirect_steps}

-- The tests that stand behind those of inode and index in `large_steps`, of a file of this length.
abbrev pub read_steps : List ℕ → ℕ → ℕ → List ℕ → List ℕ → List Step
read_steps inode len k indirect block =
    cond (ltb k 16) (direct_steps indirect) (indirect_steps inode indirect) ++ block_steps len k (large_hash inode k indirect) block

-- "Accepted: the file offset 8,192 x k and the length" of block k.
abbrev pub spanned : ℕ → List ℕ → Answer Span
spanned k block = accepted (record { offset = 8192 * k; size = length block })
