-- Every pair is compared, lowest place first, until one is apart.
-- The outer invariant: each structure passed is ordered with all after it. The inner one: structure i is ordered with those passed.
use Prim.Native.Nat.{ℕ, ◌≤◌, ◌<◌}
use mathlib.Core.Bool.{true}
use mathlib.Core.Path.{◌≡◌}
use Rattle.layout.specs.Bytes.{values}
use Rattle.protocol.specs.Check.{ordered}
use Rattle.client.proofs.order.pairs.Given as goal

abbrev pub invariant-loop-j : goal.invariant-loop-j
invariant-loop-j l = (new : ℕ → ℕ) (m : ℕ) → l.i < m → m < l.j → ordered l.list new l.i m ≡ true

abbrev pub invariant-loop-i : goal.invariant-loop-i
invariant-loop-i l = (new : ℕ → ℕ) → l.next ≡ values new 0 16 → (m : ℕ) → m < l.i → (k : ℕ) → m < k → k ≤ l.n → ordered l.list new m k ≡ true
