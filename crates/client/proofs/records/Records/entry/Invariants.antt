-- The first record of this owner.
-- The invariant: the records passed are other owners'.
use Prim.Native.Nat.{ℕ, ◌≤◌, ◌<◌}
use mathlib.Core.Bool.{false}
use mathlib.Core.Path.{◌≡◌}
use lib.Dec.{eqb}
use Rattle.protocol.specs.Version.{owner}
use Rattle.protocol.specs.List.{record_at}
use Rattle.client.proofs.records.Records.entry.Given as goal

abbrev pub invariant-loop-i : goal.invariant-loop-i
invariant-loop-i l = (m : ℕ) → 0 ≤ m → m < l.i → eqb (owner (record_at l.self m)) l.user ≡ false
