-- Where the list has no record of the user the entry is no bytes.
use mathlib.Core.List.{List, [], ◌∷◌}
use mathlib.Core.Path.{◌≡◌, refl}
use native.Mathlib.Omega.{arith}
use Prim.Native.Nat.{ℕ}
use borrow.Author.Tests.{ne_eqb}
use lib.Dec.{eqb}
use lib.ListN.{length}
use Rattle.layout.specs.Strings.{same}
use Rattle.protocol.specs.Check.{current}
use Rattle.client.proofs.order.current.Goals as goal

no_bytes : (m : List ℕ) → eqb (length m) 0 ≡ same [] m
unfolding same
no_bytes [] = refl
no_bytes (y ∷ ys) = ne_eqb (length (y ∷ ys)) 0 (λ q. omega arith)

pub returns-in-None : goal.returns-in-None
unfolding current
returns-in-None c = rw c.in-None.ensures (no_bytes _)
