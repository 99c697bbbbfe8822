use mathlib.Core.Path.{refl, ◌∙◌}
use native.Mathlib.Omega.{arith}
use Rattle.itable.specs.Many.{total}
use Rattle.itable.specs.Internal.Many.{entries_from}
use Rattle.itable.proofs.Many.{total_next, total_front}
use Rattle.many.proofs.Writing.{written_next, written_all}
use Rattle.many.proofs.entries.write.Goals as goal

pub loop-q-init : goal.loop-q-init
unfolding total entries_from
loop-q-init c = (refl, refl, refl)

pub loop-q-preserved : goal.loop-q-preserved
loop-q-preserved c =
    let l = c.loop-q in
    let a = c.args in
    let r =
    written_next a.numbers.now a.counts.now a.paths.now l.out _ _ l.behind _ l.q (omega arith) c.loop-q-test.true
    l.invariant.0 c.from-behind.ensures l.invariant.2 c.entry-e.ensures (c.copy.ensures.copied (omega arith)) in
    (omega (arith, total_next a.counts.now l.q), r.0 ∙ l.invariant.1, r.1)

-- The blocks up to question q's lie within the paths, and its own path has one.
pub overflow_add-behind : goal.overflow_add-behind
overflow_add-behind c = omega (arith, total_front c.args.counts.now c.loop-q.q)

pub overflow_mul-at : goal.overflow_mul-at
overflow_mul-at c = omega (arith, total_front c.args.counts.now c.loop-q.q)

pub overflow_add-at : goal.overflow_add-at
overflow_add-at c =
    let q = c.loop-q.q in
    omega (arith, total_front c.args.counts.now q, c.requires.3 q c.loop-q-test.true)

pub slice_bounds-entry-end : goal.slice_bounds-entry-end
slice_bounds-entry-end c =
    let q = c.loop-q.q in
    omega (arith, total_front c.args.counts.now q, c.requires.3 q c.loop-q-test.true)

pub returns : goal.returns
returns c =
    let l = c.loop-q in
    let a = c.args in
    written_all a.numbers.now a.counts.now a.paths.now l.out l.q (omega arith) (omega (arith, l.auto.q-end)) l.invariant.2
