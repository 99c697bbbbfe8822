-- Each user adds the length of what is held of it.
-- The invariant: the length of what is held of the users passed.
use Prim.Native.Nat.{◌*◌, ◌≤◌}
use mathlib.Core.Path.{◌≡◌}
use lib.ListN.{length}
use Rattle.protocol.specs.Server.{held_from}
use Rattle.protocol.specs.Version.{size}
use Rattle.server.proofs.held.Lent.length.Given as goal

abbrev pub invariant-loop-v : goal.invariant-loop-v
invariant-loop-v l = record { so_far : l.n ≡ length (held_from l.self 0 l.v); few : l.n ≤ size * l.v }
