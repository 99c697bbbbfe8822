-- Inodes of any kind, and hashes that fit a file.
use Rattle.std.specs.Prelude.{ℕ, Bool, ◌&&◌, List, ◌++◌, eqb, get_or}
use Rattle.refusal.specs.Order.{Step}
use Rattle.itable.specs.Inode.{file_blocks, rest_zero, holds, file_length}
use Rattle.inode.specs.Internal.Named.{handle_steps, form_steps}

-- The inode is of this kind, its file of this many blocks at most, and its own sixteen hashes beyond the last block are zero.
abbrev pub hashes_fit : List ℕ → ℕ → ℕ → Bool
hashes_fit inode kind most =
    eqb (get_or inode 0 0) kind && (holds most (file_length inode) && rest_zero inode 5 16 (file_blocks (file_length inode)))

-- The tests of an inode of this size and kind, up to that.
abbrev pub kind_steps : ℕ → ℕ → ℕ → List ℕ → List ℕ → List Step
kind_steps size kind most handle inode = handle_steps size handle inode ++ form_steps (hashes_fit inode kind most) 0
