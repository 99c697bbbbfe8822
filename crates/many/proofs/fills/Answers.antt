use native.Mathlib.Omega.{arith}
use Rattle.itable.specs.Many.{total}
use Rattle.many.proofs.Filled.{taken_next, too_few, all_taken}
use Rattle.many.proofs.fills.Goals as goal

pub loop-count-init : goal.loop-count-init
unfolding total
loop-count-init c = omega arith

pub returns-then-rest-n : goal.returns-then-rest-n
returns-then-rest-n c =
    let l = c.loop-count in
    too_few _ _ _ l.count-index l.invariant _ (omega arith) c.if-rest-n.true

pub loop-count-preserved : goal.loop-count-preserved
loop-count-preserved c =
    let l = c.loop-count in
    taken_next _ _ _ l.count-index l.invariant _ (omega arith) c.if-rest-n.false

pub returns : goal.returns
returns c = let l = c.loop-count in all_taken _ _ _ l.count-index l.invariant (omega (arith, l.auto.count-index-end))
