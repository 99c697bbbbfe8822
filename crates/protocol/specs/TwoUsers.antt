-- Turns that there are, so that the honest half says something: two users who take turns.
use Rattle.std.specs.Prelude.{ℕ, List, [], ◌∷◌, replicate}
use Rattle.refusal.specs.Answer.{Refused}
use Rattle.refusal.specs.Run.{Each}
use Rattle.protocol.specs.History.{Fate, whole, absent}
use Rattle.protocol.specs.Turns.{Turn, turn, after, Fair}

-- A turn with a zero handle and a buffer for sixteen records.
unfoldable pub turn_of : ℕ → Fate → Turn
turn_of u w = record { user = u; handle = replicate 32 0; buffer = replicate 1568 0; sent_write = w }

-- Users 0 and 1 of two, newest first; the file of user 0 is never marked as sent.
abbrev pub two_users : List Turn
two_users = turn_of 1 whole ∷ turn_of 0 absent ∷ turn_of 1 whole ∷ turn_of 0 absent ∷ []

-- The premise of the honest half holds of these turns, and none is refused.
pub record TwoUsers : Type 0 where
  pub fair : Fair 2 two_users
  pub all_accepted : Each (λ earlier t. Refused (turn 2 (after 2 earlier) t) → ⊥) two_users
