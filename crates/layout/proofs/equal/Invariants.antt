-- The invariant: whether the bytes passed are the same, of strings of one length.
use mathlib.Core.Path.{◌≡◌}
use lib.Dec.{eqb}
use lib.ListN.{length, get_or}
use Rattle.search.specs.Search.{every}
use Rattle.layout.proofs.equal.Given as goal

abbrev pub invariant-loop-i : goal.invariant-loop-i
invariant-loop-i l = (length l.a ≡ length l.b) × (l.alike ≡ every (λ j. eqb (get_or l.a j 0) (get_or l.b j 0)) 0 l.i)
