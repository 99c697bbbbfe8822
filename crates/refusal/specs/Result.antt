-- Calls whose result replaces a value that is lent or handed in: a buffer's bytes, or a server's list.
use Rattle.std.specs.Prelude.{◌≡◌, Result}
use Rattle.refusal.specs.Answer.{Answer, accepted, refused}
use Rattle.refusal.specs.Refusal.{checked}
use Rattle.refusal.specs.declared.Refusal.{Refusal}

-- The value after the call: the result, or as it was where the call is refused ("Nothing lent is altered").
abbrev pub left : {A : Type 0} → Answer A → A → A
left (accepted a) before = a
left (refused n p q) before = before

-- The papers fix the answer `due`: the call answers r, and what was `before` is `after`.
pub record Gives {A : Type 0} (due : Answer A) (before after : A) (r : Result Unit Refusal) : Type 0 where
  pub answers : checked after r ≡ due
  pub leaves : after ≡ left due before
