-- Each turn reads the next sixteen blocks back, or those left, and fills the block over them at its own place.
-- The invariant: the blocks passed stand at the front of the buffer, and the rest is as it was.
use Rattle.std.proofs.Common.{◌≡◌, ◌*◌, ◌++◌, length, drop}
use Rattle.layout.specs.Bytes.{parts}
use Rattle.itable.specs.Table.{row}
use Rattle.writer.specs.Internal.Children.{children}
use Rattle.writer.proofs.row.fill_over.Given as goal

abbrev pub invariant-loop-k : goal.invariant-loop-k
invariant-loop-k l = (length l.numbers ≡ 16) × (length l.hashes ≡ 512) ×
    (l.out ≡ row l.kind (children l.below 0 (parts 642 l.below)) 0 l.k ++ drop (642 * l.k) l.initial.out)
