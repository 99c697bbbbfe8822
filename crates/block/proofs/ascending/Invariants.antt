-- `return false` exhibits a number that is not below the next.
-- The invariant: each number passed is below the next, and the last one read is that of the slot before j.
use Prim.Native.Nat.{ℕ, ◌+◌, ◌<◌, ◌-◌}
use mathlib.Core.Bool.{true}
use mathlib.Core.Path.{◌≡◌}
use lib.Dec.{ltb}
use Rattle.itable.specs.Block as block
use Rattle.block.proofs.ascending.Given as goal

abbrev pub invariant-loop-j : goal.invariant-loop-j
invariant-loop-j l = (l.last ≡ block.number l.b (l.j - 1)) × ((m : ℕ) → m < l.j - 1 → ltb (block.number l.b m) (block.number l.b (m + 1)) ≡ true)
