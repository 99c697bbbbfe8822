-- Laws of tests tried in order: the answer is accepted exactly if every test passes, and a stage of tests can be tried by itself.
use Prim.Native.Nat.{ℕ}
use mathlib.Core.Bool.{Bool, true, false}
use mathlib.Core.List.{List, [], ◌∷◌}
use mathlib.Core.Path.{◌≡◌, refl}
use native.Mathlib.Omega.{arith}
use Rattle.refusal.specs.Answer.{Answer, accepted, and_then}
use Rattle.refusal.specs.Order.{Step, pass, stop, unless, in_order, tried}

-- Every test passes.
abbrev pub Passing : List Step → Type 0
Passing [] = Unit
Passing (s ∷ later) = (s ≡ pass) × Passing later

pub unless_passed : (b : Bool) (n p q : ℕ) → unless b n p q ≡ pass → b ≡ true
unless_passed true n p q e = refl
unless_passed false n p q e = let z : ◌≡◌ {A = ℕ} 0 1 = cc in absurd (omega arith)

module _ {A : Type 0} where
  pub passing : (ts : List Step) {a : Answer A} → Passing ts → in_order ts a ≡ a
  unfolding in_order
  passing [] p = refl
  passing (pass ∷ ts) p = passing ts p.1
  passing (stop n i j ∷ ts) p = let z : ◌≡◌ {A = ℕ} 0 1 = cc p.0 in absurd (omega arith)

  pub passed : (ts : List Step) {a : Answer A} {s : A} → in_order ts a ≡ accepted s → Passing ts × (a ≡ accepted s)
  unfolding in_order
  passed [] e = (tt, e)
  passed (pass ∷ ts) e = let p = passed ts e in ((refl, p.0), p.1)
  passed (stop n i j ∷ ts) e = let z : ◌≡◌ {A = ℕ} 0 1 = cc in absurd (omega arith)

  -- A stage tried by itself decides for what follows it.
  pub in_stage : (ts : List Step) (a : Answer A) → in_order ts a ≡ and_then (tried ts) (λ u. a)
  unfolding in_order
  in_stage [] a = refl
  in_stage (pass ∷ ts) a = in_stage ts a
  in_stage (stop n i j ∷ ts) a = refl

-- What follows the answer follows it in its order.
pub then_in : {A B : Type 0} (ts : List Step) (a : Answer A) (g : A → Answer B) → and_then (in_order ts a) g ≡ in_order ts (and_then a g)
unfolding in_order
then_in [] a g = refl
then_in (pass ∷ ts) a g = then_in ts a g
then_in (stop n i j ∷ ts) a g = refl
