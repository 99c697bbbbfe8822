-- Tests that refuse are the definition's; where they pass, the structure is laid out as pending.
use mathlib.Core.Bool.{◌&&◌}
use mathlib.Core.Path.{◌≡◌}
use lib.Dec.{eqb}
use lib.ListN.{length}
use Rattle.std.proofs.Common.{rules, tests}
use Rattle.refusal.proofs.Stage.{hands_on, goes_on_to, gives_result}
use Rattle.protocol.specs.Version.{size}
use Rattle.protocol.specs.MemoryFile.{file_size}
use Rattle.memory.proofs.Judged.{was_long, both_long}
use Rattle.memory.proofs.Calls.{pend_due}
use Rattle.memory.proofs.pend.Goals as goal

pub returns-in_err-judge : goal.returns-in_err-judge
returns-in_err-judge c =
    let long : c.if-x-eq-SIZE.long ≡ (eqb (length c.args.x.now) size && eqb (length c.args.out.now) file_size) = search (rules, tests) in
    hands_on _ _ (pend_due _ _ _ _ _ _ long c.own.ensures) c.judge.result c.judge.ensures c.in_err-judge.was c.from_residual.ensures.1

pub lay-requires : goal.lay-requires
lay-requires c =
    let long : c.if-x-eq-SIZE.long ≡ (eqb (length c.args.x.now) size && eqb (length c.args.out.now) file_size) = search (rules, tests) in
    let j = c.judge in
    let l =
    both_long _ _ size _ file_size long
    (was_long _ _ _ _ j.result j.ensures c.in_ok-judge.was) in
    record { x_len = l.0; out_len = l.1 }

pub returns : goal.returns
returns c =
    let long : c.if-x-eq-SIZE.long ≡ (eqb (length c.args.x.now) size && eqb (length c.args.out.now) file_size) = search (rules, tests) in
    gives_result _ _
    (goes_on_to _ _ (pend_due _ _ _ _ _ _ long c.own.ensures) c.judge.result c.judge.ensures
    c.in_ok-judge.was) c.lay.ensures
