-- The two places that the flag chooses from.
use native.Mathlib.Omega.{arith}
use borrow.Author.Tests.{eq-eqb, ne_eqb}
use Rattle.input.specs.Form.{behind_memory}
use Rattle.input.proofs.remembered.Goals as goal

pub returns-in-0 : goal.returns-in-0
unfolding behind_memory
returns-in-0 c = (omega (arith, c.in-0.is), rw (ne_eqb c.args.flag 1 (λ e. omega (arith, e, c.in-0.is))))

pub returns-in-1 : goal.returns-in-1
unfolding behind_memory
returns-in-1 c = (omega (arith, c.in-1.is), rw (eq-eqb c.args.flag 1 (omega (arith, c.in-1.is))))
