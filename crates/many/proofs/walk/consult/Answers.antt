-- The form, then the slot that leads on, then whether blocks are left; each `return` has the law of its case. There is no loop.
use mathlib.Core.Path.{sym, ◌∙◌}
use Rattle.many.proofs.Steps.{not_formed, leads_on, over, known_here}
use Rattle.many.proofs.walk.consult.Goals as goal

pub returns-then-not-well_formed : goal.returns-then-not-well_formed
returns-then-not-well_formed c = not_formed _ _ _ _ _ (sym c.well_formed-2.ensures ∙ c.if-not-well_formed.true)

pub returns-in-Some : goal.returns-in-Some
returns-in-Some c =
    leads_on _ _ _ _ _ (sym c.well_formed-2.ensures ∙ c.if-not-well_formed.false) _ c.leads.ensures c.in-Some.is

pub returns-in-None : goal.returns-in-None
returns-in-None c =
    over _ _ _ _ _ (sym c.well_formed-2.ensures ∙ c.if-not-well_formed.false) _ c.leads.ensures c.in-None.is
    c.if-left-gt0.true

pub returns-in-None-2 : goal.returns-in-None-2
returns-in-None-2 c =
    known_here _ _ _ _ _ (sym c.well_formed-2.ensures ∙ c.if-not-well_formed.false) _ c.leads.ensures c.in-None.is
    c.if-left-gt0.false
