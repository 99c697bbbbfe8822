-- No bytes in state none, and else all that is behind it.
use native.Mathlib.Omega.{arith}
use Rattle.memory.proofs.Form.{none_held, some_held}
use Rattle.memory.proofs.held.Goals as goal

pub returns-in-2 : goal.returns-in-2
returns-in-2 c = let s = c.byte_at in none_held _ s.result s.ensures c.in-2.is

pub returns-in_default : goal.returns-in_default
returns-in_default c = let s = c.byte_at in some_held _ s.result s.ensures (λ e. omega arith) c.behind.ensures
