-- Nothing is left over, and a slot gives its value.
use mathlib.Core.Path.{sym}
use Rattle.itable.proofs.Consult.{known_last}
use Rattle.lookup.proofs.ended.Goals as goal

pub returns-in-Some : goal.returns-in-Some
returns-in-Some c = rw (c.in-Some.is, c.value.ensures) (sym (known_last _ _ _ c.if-left-gt0.false))

pub returns-in-None : goal.returns-in-None
returns-in-None c = rw c.in-None.is (sym (known_last _ _ _ c.if-left-gt0.false))
