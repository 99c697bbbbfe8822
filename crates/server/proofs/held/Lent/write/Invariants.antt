-- Each user's record is written after those of the users before it, so the held records stand at the front in the users' order.
-- The invariant: what is held of the users below v stands at the front, up to `at`, and after it the buffer is as it was.
use mathlib.Core.List.{◌++◌}
use mathlib.Core.Path.{◌≡◌}
use lib.ListN.{length, drop}
use Rattle.protocol.specs.Server.{held_from}
use Rattle.server.proofs.held.Lent.write.Given as goal

abbrev pub invariant-loop-v : goal.invariant-loop-v
invariant-loop-v l = record {
  next : l.at ≡ length (held_from l.self 0 l.v);
  written : l.out ≡ held_from l.self 0 l.v ++ drop l.at l.initial.out;
}
