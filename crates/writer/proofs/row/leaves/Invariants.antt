-- Each turn fills the next leaf at its own place.
-- The invariant: the leaves passed stand at the front of the buffer, and the rest is as it was.
use Rattle.std.proofs.Common.{◌≡◌, ◌*◌, ◌++◌, drop}
use Rattle.itable.specs.Table.{files, row}
use Rattle.writer.proofs.row.leaves.Given as goal

abbrev pub invariant-loop-k : goal.invariant-loop-k
invariant-loop-k l = l.out ≡ row 3 (files l.numbers l.handles) 0 l.k ++ drop (642 * l.k) l.initial.out
