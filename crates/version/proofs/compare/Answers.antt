-- Each arm's answer is the one that the two tests tell.
use Prim.Native.Nat.{ℕ}
use mathlib.Core.Bool.{Bool}
use mathlib.Core.Path.{◌≡◌, refl, sym}
use native.Mathlib.Omega.{arith}
use lib.Dec.{leb}
use Rattle.protocol.specs.Version.{counts_before, standing}
use Rattle.protocol.proofs.Standing.{told, by_orders}
use Rattle.search.specs.Search.{find, every}
use Rattle.search.proofs.Search.{every_more}
use Rattle.version.proofs.compare.Goals as goal

tells :
    (f g : ℕ → ℕ) (k : ℕ) → 16 ≡ k → {a b p q : Bool} → p ≡ every (λ v. leb (f v) (g v)) 0 k →
    q ≡ every (λ v. leb (g v) (f v)) 0 k → p ≡ a → q ≡ b → told a b ≡ standing f g
unfolding counts_before
tells f g k n p q d e = rw (sym d, sym e, p, q, sym n) (sym (by_orders f g))

pub loop-v-init : goal.loop-v-init
unfolding every find
loop-v-init c = record { below = refl; above = refl }

pub loop-v-preserved : goal.loop-v-preserved
loop-v-preserved c =
    let h = c.loop-v.invariant in
    record { below = rw h.below (sym (every_more _ c.loop-v.v)); above = rw h.above (sym (every_more _ c.loop-v.v)) }

pub returns-in-true-true : goal.returns-in-true-true
returns-in-true-true c =
    let h = c.loop-v.invariant in
    tells _ _ _ (omega arith) h.below h.above c.in-true-true.is-0 c.in-true-true.is-1

pub returns-in-true-false : goal.returns-in-true-false
returns-in-true-false c =
    let h = c.loop-v.invariant in
    tells _ _ _ (omega arith) h.below h.above c.in-true-false.is-0 c.in-true-false.is-1

pub returns-in-false-true : goal.returns-in-false-true
returns-in-false-true c =
    let h = c.loop-v.invariant in
    tells _ _ _ (omega arith) h.below h.above c.in-false-true.is-0 c.in-false-true.is-1

pub returns-in-false-false : goal.returns-in-false-false
returns-in-false-false c =
    let h = c.loop-v.invariant in
    tells _ _ _ (omega arith) h.below h.above c.in-false-false.is-0 c.in-false-false.is-1
