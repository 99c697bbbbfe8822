-- Each test is one of the definition's, in its order.
use native.Mathlib.Omega.{arith}
use Rattle.create.proofs.Stages.{counts_beyond, last_version, not_next, is_next}
use Rattle.create.proofs.counts.counts.Goals as goal

pub returns-then-not-zero_from : goal.returns-then-not-zero_from
returns-then-not-zero_from c =
    counts_beyond _ _ _ _ c.requires.memory_value _ c.zero_from.ensures (c.if-not-zero_from.true)

pub returns-in_default : goal.returns-in_default
returns-in_default c =
    last_version _ _ _ _ c.requires.memory_value _ c.zero_from.ensures (c.if-not-zero_from.false) _ c.count-own.ensures
    (omega (arith, c.in_default.ensures))

pub returns-then-new-next : goal.returns-then-new-next
returns-then-new-next c =
    not_next _ _ _ _ c.requires.memory_value _ c.zero_from.ensures (c.if-not-zero_from.false) _ c.count-own.ensures
    (λ e. omega (arith, c.in-Some.ensures)) (λ e. omega (arith, c.in-Some.ensures))

pub returns : goal.returns
returns c =
    is_next _ _ _ _ c.requires.memory_value _ c.zero_from.ensures (c.if-not-zero_from.false) _ c.count-own.ensures
    (λ e. omega (arith, c.in-Some.ensures)) (omega (arith, c.in-Some.ensures))
