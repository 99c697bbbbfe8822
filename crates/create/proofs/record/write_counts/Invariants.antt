-- The counts, written in a row.
-- The invariant: those of the users passed are in place.
use Prim.Native.Nat.{◌*◌}
use mathlib.Core.Path.{◌≡◌}
use lib.ListN.{length, get_or, take}
use Rattle.protocol.specs.Version.{counts as counts_of}
use Rattle.create.proofs.record.write_counts.Given as goal

abbrev pub invariant-loop-v : goal.invariant-loop-v
invariant-loop-v l = (length l.out ≡ 64) × (take (4 * l.v) l.out ≡ counts_of (λ w. get_or l.counts w 0) 0 l.v)
