-- Each question's entry is written at its own place, after those of the questions before it, until the buffer is full.
-- The invariant: `behind` blocks belong to the first q questions, whose entries stand at the front.
use Prim.Native.Nat.{◌*◌}
use mathlib.Core.Path.{◌≡◌}
use lib.ListN.{length, take}
use Rattle.itable.specs.Many.{total, entry_size}
use Rattle.itable.specs.Internal.Many.{entries_from}
use Rattle.many.specs.Internal.Judged.{entry_to}
use Rattle.many.proofs.entries.write.Given as goal

abbrev pub invariant-loop-q : goal.invariant-loop-q
invariant-loop-q l = (l.behind ≡ total (take l.q l.counts)) × (length l.out ≡ length l.initial.out) ×
    (take (entry_size * l.q) l.out ≡ entries_from (entry_to l.numbers l.counts l.paths) 0 l.q)
