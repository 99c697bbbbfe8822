use mathlib.Core.Bool.{not}
use mathlib.Core.Path.{sym, ap, ◌∙◌}
use native.Mathlib.Omega.{arith}
use Rattle.search.proofs.Place.{first_at, first_none}
use Rattle.search.proofs.Search.{span_more}
use Rattle.client.proofs.forms.first_misplaced.Goals as goal

pub returns-then-not-well_placed : goal.returns-then-not-well_placed
returns-then-not-well_placed c =
    sym
    (first_at _ _ _ _ (omega arith) (omega arith) c.loop-i.invariant (ap not (sym c.well_placed.ensures ∙ c.if-not-well_placed.true)))

pub loop-i-preserved : goal.loop-i-preserved
loop-i-preserved c =
    span_more _ _ c.loop-i.invariant (ap not (sym c.well_placed.ensures ∙ c.if-not-well_placed.false))

pub returns : goal.returns
returns c = sym (first_none _ _ _ (λ m h l. c.loop-i.invariant m h (omega arith)))
