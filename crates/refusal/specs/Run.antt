-- Runs: lists of calls of any kind, written newest first, so that what follows a call in the list is what came earlier in the run.
use Rattle.std.specs.Prelude.{ℕ, List, [], ◌∷◌}
use Rattle.refusal.specs.Answer.{Answer, accepted, refused}

-- P holds of each member of a run and what came before it.
abbrev pub Each : {A : Type 0} → (List A → A → Type 0) → List A → Type 0
Each P [] = Unit
Each P (c ∷ earlier) = P earlier c × Each P earlier

-- The state after the calls of a run, from the state `start`, where each call leaves what `leaves` says.
unfoldable pub state_after : {S A : Type 0} → (S → A → S) → S → List A → S
state_after leaves start [] = start
state_after leaves start (c ∷ earlier) = leaves (state_after leaves start earlier) c

-- What an answer adds to the number of calls accepted.
abbrev pub one : {A : Type 0} → Answer A → ℕ
one (accepted a) = 1
one (refused n p q) = 0
