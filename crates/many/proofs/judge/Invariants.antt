-- Each question is asked with the blocks after those of the questions before it, and the first that is refused ends the call.
-- The invariant: every question before q is accepted, their blocks are counted, and all that is known holds.
use mathlib.Core.Path.{◌≡◌}
use lib.ListN.{length, take}
use Rattle.itable.specs.Many.{total}
use Rattle.many.specs.Internal.Known.{AllKnown}
use Rattle.many.proofs.Asking.{AcceptedBefore}
use Rattle.many.proofs.judge.Given as goal

abbrev pub invariant-loop-q : goal.invariant-loop-q
invariant-loop-q l = (l.first ≡ total (take l.q-counter l.counts)) × (length l.known ≡ 3) × AllKnown l.paths l.known × AcceptedBefore l.handle l.numbers l.counts l.paths l.q-counter
