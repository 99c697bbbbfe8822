-- The report's lines are the output, so the test of the buffer's length is the definition's, and the lines are copied only where it passes.
-- There is no loop.
use mathlib.Core.Path.{ap, ◌∙◌}
use native.Mathlib.Omega.{arith}
use lib.ListN.{length}
use Rattle.report.proofs.Output.{report_printed, no_room, room}
use Rattle.report.proofs.write.Goals as goal

pub returns-then-out-n : goal.returns-then-out-n
returns-then-out-n c =
    λ input h.
    let p = c.report.ensures ∙ report_printed input _ h in
    let n = c.len-n.ensures in
    let r = no_room input _ c.args.out.now p (omega (arith, n.value)) in
    (r.0, r.1, omega (arith, ap length p, n.value, n.fits))

pub returns : goal.returns
returns c =
    λ input h.
    let p = c.report.ensures ∙ report_printed input _ h in
    let n = c.len-n.ensures in
    let copied = rw (c.as_bytes.ensures.value, c.as_str.ensures.value) at c.copy.ensures.copied in
    let r = room input _ c.args.out.now p _ (omega (arith, n.value)) (copied (omega (arith, n.value))) in
    (rw n.value r.0, r.1, omega (arith, ap length p, n.value, n.fits))
