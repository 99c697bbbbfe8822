-- The records, read in a row.
-- The invariant: those of the places passed are in place.
use Prim.Native.Nat.{ℕ, ◌<◌}
use mathlib.Core.Path.{◌≡◌}
use lib.ListN.{length, get_or}
use Rattle.protocol.specs.List.{record_at}
use Rattle.version.specs.Version.{fields}
use Rattle.client.specs.Internal.Stages.{none}
use Rattle.client.proofs.order.read_list.Given as goal

abbrev pub invariant-loop-i : goal.invariant-loop-i
invariant-loop-i l = (length l.structures ≡ 16) × ((m : ℕ) → m < l.i → get_or l.structures m none ≡ fields (record_at l.list m))
