-- Each block is the last one consulted at its depth, or it is hashed; the lookup ends at it or goes on along the slot that it names, and ends with 9
-- where no block is left.
-- The invariant: the lookup from block d on, to which the link leads, is that of the whole path; and all that is known holds.
use Prim.Native.Nat.{◌-◌}
use mathlib.Core.Path.{◌≡◌}
use lib.ListN.{length}
use Rattle.itable.specs.Lookup.{consult}
use Rattle.many.specs.Internal.Known.{AllKnown}
use Rattle.many.specs.Internal.Walk.{path_from}
use Rattle.many.proofs.walk.walk.Given as goal

abbrev pub invariant-loop-d : goal.invariant-loop-d
invariant-loop-d l = (length l.known ≡ 3) × AllKnown l.paths l.known ×
    (consult (path_from l.paths l.first l.n) l.number (l.n - l.d) l.d l.link ≡ consult (path_from l.paths l.first l.n) l.number l.n 0 l.initial.link)
