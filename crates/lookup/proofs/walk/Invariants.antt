-- The lookup ends at a block, or goes on along the slot that it names; it ends with 9 where no block is left.
-- The invariant: the blocks that are left are those from block d on, and the lookup from there, to which the link leads, is that of the whole path.
use Prim.Native.Nat.{◌-◌, ◌*◌, ◌≤◌}
use mathlib.Core.Path.{◌≡◌}
use lib.ListN.{drop}
use Rattle.itable.specs.Block.{size}
use Rattle.itable.specs.Lookup.{consult}
use Rattle.lookup.proofs.walk.Given as goal

abbrev pub invariant-loop-d : goal.invariant-loop-d
invariant-loop-d l =
    (l.d-iterator.count ≤ l.n) × (l.d-iterator.iter.size ≡ size) × (l.d-iterator.iter.rest.now ≡ drop (size * l.d-iterator.count) l.path) ×
    (consult l.path l.number (l.n - l.d-iterator.count) l.d-iterator.count l.link ≡ consult l.path l.number l.n 0 l.initial.link)
