-- The order in which a call tries its refusals: "Order: 1, 2, 3 ..". The first test that fails refuses.
use Rattle.std.specs.Prelude.{ℕ, Bool, true, false, not, List, [], ◌∷◌}
use Rattle.search.specs.Search.{find, every}
use Rattle.refusal.specs.Answer.{Answer, accepted, refused}

-- One test of an order: passed, or stopped with a refusal's number and positions.
pub data Step : Type 0 where
  pass : Step
  stop : ℕ → ℕ → ℕ → Step

-- Refuse with this number and these positions unless the condition holds.
abbrev pub unless : Bool → ℕ → ℕ → ℕ → Step
unless true n p q = pass
unless false n p q = stop n p q

-- Refuse with this number and the first of the places 0 to k - 1 at which p fails, if there is one.
abbrev pub unless_each : (ℕ → Bool) → ℕ → ℕ → Step
unless_each p k n = unless (every p 0 k) n (find (λ i. not (p i)) 0 k) 0

-- The answer `a`, unless one of the tests stops: then the refusal of the first that does.
unfoldable pub in_order : {A : Type 0} → List Step → Answer A → Answer A
in_order [] a = a
in_order (pass ∷ later) a = in_order later a
in_order (stop n p q ∷ later) a = refused n p q

-- What the tests say by themselves.
abbrev pub tried : List Step → Answer Unit
tried ts = in_order ts (accepted tt)
