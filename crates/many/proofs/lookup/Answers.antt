-- The lengths are the definition's; then the questions are judged, and where all are accepted their answers are written. There is no loop.
use mathlib.Core.Path.{refl, ◌∙◌}
use Rattle.search.proofs.Bool.{not_both}
use Rattle.many.proofs.Answering.{wrong_length, handed_on, answered}
use Rattle.many.proofs.lookup.Goals as goal

pub returns-then-not-sized : goal.returns-then-not-sized
returns-then-not-sized c =
    let a = c.args in
    let told =
    wrong_length a.handle.now a.numbers.now a.counts.now a.paths.now a.out.now
    (λ w. not_both (c.sized.ensures.1 w) c.if-not-sized.true) in
    record { answers = told.0; leaves = told.1 }

pub judge-requires : goal.judge-requires
judge-requires c =
    let s = c.sized.ensures.0 c.if-not-sized.false in (s.handle_long, s.count_each, s.filled)

pub returns-in_err-judge : goal.returns-in_err-judge
returns-in_err-judge c =
    let a = c.args in
    let told =
    handed_on a.handle.now a.numbers.now a.counts.now a.paths.now a.out.now (c.sized.ensures.0 c.if-not-sized.false)
    c.judge.ensures c.in_err-judge.was _ c.from_residual.ensures.1 in
    record { answers = told.0; leaves = told.1 }

pub write-requires : goal.write-requires
write-requires c =
    let s = c.sized.ensures.0 c.if-not-sized.false in
    (s.count_each, s.filled, s.room_due, c.judge.ensures.counted (c.in_ok-judge.was ∙ refl))

pub returns : goal.returns
returns c =
    let a = c.args in
    let told =
    answered a.handle.now a.numbers.now a.counts.now a.paths.now a.out.now (c.sized.ensures.0 c.if-not-sized.false)
    c.judge.ensures c.in_ok-judge.was c.write.ensures in
    record { answers = told.0; leaves = told.1 }
