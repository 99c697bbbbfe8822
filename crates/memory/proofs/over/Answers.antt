-- Tests that refuse are the definition's; where they pass, the file of what was remembered is copied into the buffer.
use mathlib.Core.Bool.{◌&&◌}
use mathlib.Core.Path.{◌≡◌, ◌∙◌}
use native.Mathlib.Omega.{arith}
use lib.Dec.{eqb}
use lib.ListN.{length}
use Rattle.std.proofs.Common.{rules}
use Rattle.refusal.proofs.Stage.{hands_on, goes_on_to, gives_result}
use Rattle.layout.proofs.Copied.{copied_over}
use Rattle.memory.proofs.Judged.{was_long, over_test, over_long}
use Rattle.memory.proofs.Calls.{over_due}
use Rattle.memory.proofs.over.Goals as goal

pub returns-in_err-judge : goal.returns-in_err-judge
returns-in_err-judge c =
    let long : c.if-none_or_one.long ≡ (c.none_or_one.result && eqb (length c.args.out.now) 100) = search rules in
    let t = over_test _ _ _ _ c.none_or_one.ensures long in
    hands_on _ _ (over_due _ _ _ _ _ _ t c.remembered.ensures) c.judge.result c.judge.ensures c.in_err-judge.was c.from_residual.ensures.1

pub returns : goal.returns
returns c =
    let j = c.judge in
    let long : c.if-none_or_one.long ≡ (c.none_or_one.result && eqb (length c.args.out.now) 100) = search rules in
    let t = over_test _ _ _ _ c.none_or_one.ensures long in
    let l = over_long _ _ _ _ c.none_or_one.ensures long (was_long _ _ _ _ j.result j.ensures c.in_ok-judge.was) in
    gives_result _ _ (goes_on_to _ _ (over_due _ _ _ _ _ _ t c.remembered.ensures) j.result j.ensures c.in_ok-judge.was)
    (c.copy.ensures.copied (omega (arith, l.1)) ∙ (copied_over _ _ (omega (arith, l.1)) ∙ c.file_of-file.ensures.laid l.0))
