-- What a call answers.
use Rattle.std.specs.Prelude.{ℕ}

-- A result, or a refusal: its number and two positions ("Each carries two places, 0 where the table names none").
pub data Answer (A : Type 0) : Type 0 where
  accepted : A → Answer A
  refused : ℕ → ℕ → ℕ → Answer A

-- A call that is made where an earlier one gave its result; a refusal ends them.
abbrev pub and_then : {A B : Type 0} → Answer A → (A → Answer B) → Answer B
and_then (accepted a) f = f a
and_then (refused n p q) f = refused n p q

-- Whether a call is refused.
abbrev pub Refused : {A : Type 0} → Answer A → Type 0
Refused (accepted a) = ⊥
Refused (refused n p q) = Unit
