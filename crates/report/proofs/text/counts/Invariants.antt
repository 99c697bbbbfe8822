-- Each turn writes one count, and a count takes 21 bytes at most.
-- The invariant: the counts of the turns before are written.
use Prim.Native.Nat.{◌+◌, ◌*◌, ◌≤◌}
use mathlib.Core.List.{◌++◌}
use mathlib.Core.Path.{◌≡◌}
use lib.ListN.{length, take}
use Rattle.report.specs.Printed.{all_spaced}
use Rattle.report.proofs.text.counts.Given as goal

abbrev pub invariant-loop-count : goal.invariant-loop-count
invariant-loop-count l = (l.text.bytes ≡ l.initial.text.bytes ++ all_spaced (take l.count-index l.counts)) × (length l.text.bytes ≤ length l.initial.text.bytes + 21 * l.count-index)
