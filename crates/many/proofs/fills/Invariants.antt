-- The bytes are counted down by each question's blocks: they are too few at one question, or what is left after the last decides.
-- The invariant: what is left, and the blocks of the first q questions, are all the bytes.
use Prim.Native.Nat.{◌+◌, ◌*◌}
use mathlib.Core.Path.{◌≡◌}
use lib.ListN.{take}
use Rattle.itable.specs.Block.{size}
use Rattle.itable.specs.Many.{total}
use Rattle.many.proofs.fills.Given as goal

abbrev pub invariant-loop-count : goal.invariant-loop-count
invariant-loop-count l = l.rest + size * total (take l.count-index l.counts) ≡ l.bytes
