-- A leaf leads nowhere, and of another block the last slot whose number is at most the i-number leads on.
use mathlib.Core.Path.{sym, ◌∙◌}
use borrow.Author.Tests.{eq-eqb, ne_eqb}
use Rattle.itable.specs.Internal.Many.{leads_at}
use Rattle.many.proofs.walk.leads.Goals as goal

pub returns-then-kind-eq-LEAF : goal.returns-then-kind-eq-LEAF
unfolding leads_at
returns-then-kind-eq-LEAF c = rw (eq-eqb _ 3 (sym c.kind.ensures ∙ c.if-kind-eq-LEAF.true))

pub returns : goal.returns
unfolding leads_at
returns c = rw (ne_eqb _ 3 (λ e. c.if-kind-eq-LEAF.false (c.kind.ensures ∙ e))) c.last_at_most.ensures
