-- The invariant: whether the bytes passed are zero. What is behind the end of the bytes is read as zero.
use Prim.Native.Nat.{◌-◌, ◌≤◌}
use mathlib.Core.Path.{◌≡◌}
use Rattle.layout.specs.Strings.{zeros}
use Rattle.layout.proofs.zero_between.Given as goal

abbrev pub invariant-loop-x : goal.invariant-loop-x
invariant-loop-x l = (l.x - l.from ≤ l.to - l.from) × (l.zero ≡ zeros l.b l.from (l.x - l.from))
