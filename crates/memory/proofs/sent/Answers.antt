-- Tests that refuse are the definition's; where they pass, a pending file's state is set, and any other file stays.
use native.Mathlib.Omega.{arith}
use borrow.Author.Tests.{eqb-true}
use Rattle.refusal.proofs.Stage.{hands_on, goes_on_to, gives_result}
use Rattle.memory.proofs.Judged.{was_long}
use Rattle.memory.proofs.Calls.{sent_due, sent_kept, sent_set}
use Rattle.memory.proofs.sent.Goals as goal

pub returns-in_err-judge : goal.returns-in_err-judge
returns-in_err-judge c =
    hands_on _ _ (sent_due _ _ _ _ c.formed.ensures) c.judge.result c.judge.ensures c.in_err-judge.was c.from_residual.ensures.1

pub returns-then-not-pending : goal.returns-then-not-pending
returns-then-not-pending c =
    gives_result _ _
    (goes_on_to _ _ (sent_due _ _ _ _ c.formed.ensures) c.judge.result c.judge.ensures c.in_ok-judge.was)
    (sent_kept _ _ c.pending.ensures c.if-not-pending.true)

pub bounds-file-1 : goal.bounds-file-1
bounds-file-1 c =
    let j = c.judge in
    let l = eqb-true _ 100 (was_long _ _ _ _ j.result j.ensures c.in_ok-judge.was) in omega (arith, l)

pub returns : goal.returns
returns c =
    let j = c.judge in
    let l = eqb-true _ 100 (was_long _ _ _ _ j.result j.ensures c.in_ok-judge.was) in
    gives_result _ _
    (goes_on_to _ _ (sent_due _ _ _ _ c.formed.ensures) j.result j.ensures c.in_ok-judge.was)
    (sent_set _ _ c.pending.ensures c.if-not-pending.false l)
