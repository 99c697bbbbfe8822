-- Kind and number of slots, then slot after slot, then zeros: every byte is written.
-- The invariant: up to slot j the bytes are those of the block.
use Prim.Native.Nat.{◌+◌, ◌*◌}
use mathlib.Core.List.{◌∷◌}
use mathlib.Core.Path.{◌≡◌}
use lib.ListN.{length, take}
use Rattle.itable.specs.Table.{files, slots}
use Rattle.block.proofs.fill.entries.Given as goal

abbrev pub invariant-loop-j : goal.invariant-loop-j
invariant-loop-j l = (length l.out ≡ 642) × (take (2 + 40 * l.j) l.out ≡ l.kind ∷ length l.numbers ∷ slots (files l.numbers l.values) 0 l.j)
