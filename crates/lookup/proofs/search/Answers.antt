-- A leaf's slot has the number, or none has; an inner block's leads on, or none does.
use mathlib.Core.Path.{sym, ◌∙◌}
use Rattle.lookup.proofs.Laws.{leaf_ends, inner_ends, inner_leads}
use Rattle.lookup.proofs.search.Goals as goal

pub returns-then-kind-eq-LEAF : goal.returns-then-kind-eq-LEAF
returns-then-kind-eq-LEAF c = leaf_ends _ _ (sym c.kind.ensures ∙ c.if-kind-eq-LEAF.true) _ c.slot_of.ensures

pub returns-in-Some : goal.returns-in-Some
returns-in-Some c = inner_leads _ _ (λ e. c.if-kind-eq-LEAF.false (c.kind.ensures ∙ e)) _ c.last_at_most.ensures c.in-Some.is

pub returns-in-None : goal.returns-in-None
returns-in-None c = inner_ends _ _ (λ e. c.if-kind-eq-LEAF.false (c.kind.ensures ∙ e)) _ c.last_at_most.ensures c.in-None.is
