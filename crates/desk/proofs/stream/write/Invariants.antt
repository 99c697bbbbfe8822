-- What is left to write is within the buffer. Each turn takes at least one byte.
use Rattle.std.proofs.Common.{length, ◌≤◌}
use Rattle.desk.proofs.stream.write.Given as goal

abbrev pub invariant-loop-output : goal.invariant-loop-output
invariant-loop-output g l = length l.rest ≤ length l.buf

abbrev pub decreases-loop-output : goal.decreases-loop-output
decreases-loop-output g l = length l.rest
