-- The first record that is not well placed.
-- The invariant: the records passed are.
use Prim.Native.Nat.{ℕ, ◌≤◌, ◌<◌}
use mathlib.Core.Bool.{not, false}
use mathlib.Core.Path.{◌≡◌}
use Rattle.protocol.specs.List.{well_placed}
use Rattle.client.proofs.forms.first_misplaced.Given as goal

abbrev pub invariant-loop-i : goal.invariant-loop-i
invariant-loop-i l = (m : ℕ) → 0 ≤ m → m < l.i → not (well_placed l.users l.list m) ≡ false
