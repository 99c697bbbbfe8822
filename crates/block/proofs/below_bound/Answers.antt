-- The definition by cases: no bound, no number, and the last number, which is above the others.
use Rattle.block.proofs.Laws.{unbounded, none_bounded, last_bounded}
use Rattle.block.proofs.below_bound.Goals.{then-bound-eq0-via-then-bound-eq0, then-bound-eq0-via-else-bound-eq0+then-used-eq0}
use Rattle.block.proofs.below_bound.Goals as goal

pub returns-then-bound-eq0 : goal.returns-then-bound-eq0
returns-then-bound-eq0 c =
    elim c.then-bound-eq0.branch [
      | then-bound-eq0-via-then-bound-eq0 w ↦ unbounded _ _ w.if-bound-eq0.true
      | then-bound-eq0-via-else-bound-eq0+then-used-eq0 w ↦ none_bounded _ _ w.if-bound-eq0.false _ c.used-used.ensures w.if-used-eq0.true
    ]

pub returns : goal.returns
returns c =
    last_bounded _ _ c.if-bound-eq0.false _ c.used-used.ensures c.if-used-eq0.false c.requires _
    c.number.ensures
