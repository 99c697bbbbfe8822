-- `return` has the first number that is not above the one before.
-- The invariant: each number passed is above the one before, the first being so.
use Rattle.std.proofs.Common.{◌≡◌, ℕ, ◌<◌, true}
use Rattle.itable.specs.Write.{number_above}
use Rattle.writer.proofs.not_above.Given as goal

abbrev pub invariant-loop-i : goal.invariant-loop-i
invariant-loop-i l = (m : ℕ) → m < l.i → number_above l.numbers m ≡ true
