use Rattle.std.proofs.Common.{◌≡◌, rules}
use mathlib.Core.Path.{refl, sym}
use native.Mathlib.Omega.{arith}
use borrow.Author.Count.{below_more}
use Rattle.itable.specs.Many.{total}
use Rattle.itable.proofs.Many.{total_next}
use Rattle.many.proofs.Along.{none_known}
use Rattle.many.proofs.Asking.{asked, within, some_block, all_asked, hands_on, told_at, told_passed}
use Rattle.many.proofs.judge.Goals as goal

pub loop-q-init : goal.loop-q-init
unfolding total
loop-q-init c = (refl, refl, none_known c.args.paths.now, λ j h. absurd (omega arith))

pub overflow_add-first : goal.overflow_add-first
overflow_add-first c =
    let l = c.loop-q in
    omega (arith, within c.args.counts.now c.args.paths.now l.q-counter _ _ c.requires.2 l.invariant.0 c.from-n.ensures)

pub ask-requires : goal.ask-requires
ask-requires c =
    let l = c.loop-q in
    (c.requires.0, within _ c.args.paths.now l.q-counter _ _ c.requires.2 l.invariant.0 c.from-n.ensures, l.invariant.2)

pub returns-in_err-map_err : goal.returns-in_err-map_err
returns-in_err-map_err c =
    let l = c.loop-q in
    let a = c.args in
    let h = told_at _ _ _ c.map_err.ensures.cases c.in_err-map_err.was in
    let k = h.2 in
    let named : c.in_err-map_err.field-0.0 ≡ record { question = l.q-counter; refusal = h.0 } = search rules in
    hands_on a.handle.now a.numbers.now a.counts.now a.paths.now l.q-counter c.loop-q-test.true l.invariant.3
    (asked a.handle.now a.numbers.now a.counts.now a.paths.now l.q-counter l.first _ _ l.invariant.0 c.from-n.ensures
    refl c.ask.ensures h.1)
    named _ c.from_residual.ensures.1

pub loop-q-preserved : goal.loop-q-preserved
loop-q-preserved c =
    let l = c.loop-q in
    let a = c.args in
    let h = told_passed _ _ _ c.map_err.ensures.cases c.in_ok-map_err.was in
    let e =
    sym
    (asked a.handle.now a.numbers.now a.counts.now a.paths.now l.q-counter l.first _ _ l.invariant.0 c.from-n.ensures refl
    c.ask.ensures h) in (
      rw (total_next a.counts.now l.q-counter, ← l.invariant.0, ← c.from-n.ensures),
      c.ask.array_long,
      c.ask.ensures.knows,
      below_more _ _ l.invariant.3 (e, some_block a.handle.now a.numbers.now a.counts.now a.paths.now l.q-counter c.requires.2 e),
    )

pub returns : goal.returns
returns c =
    let l = c.loop-q in
    let a = c.args in
    all_asked a.handle.now a.numbers.now a.counts.now a.paths.now l.q-counter c.loop-q-test.false l.invariant.3
