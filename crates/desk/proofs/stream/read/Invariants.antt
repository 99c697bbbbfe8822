-- What is left to fill is within the buffer. Each turn reads at least one byte.
use Rattle.std.proofs.Common.{length, ◌≤◌}
use Rattle.desk.proofs.stream.read.Given as goal

abbrev pub invariant-loop-input : goal.invariant-loop-input
invariant-loop-input g l = length l.rest ≤ l.len

abbrev pub decreases-loop-input : goal.decreases-loop-input
decreases-loop-input g l = length l.rest
