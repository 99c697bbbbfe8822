-- What was read is within the input's buffer, and what was written of the output within its own. There is no loop.
use mathlib.Core.Path.{sym}
use native.Mathlib.Omega.{arith}
use lib.Seq.{length-take-le}
use Rattle.report.proofs.Output.{within}
use Rattle.desk.proofs.main.Goals as goal

pub slice_bounds-output-end : goal.slice_bounds-output-end
slice_bounds-output-end c = omega (arith, within _ 393 _ c.in-Ok.ensures.answers)

pub slice_bounds-write-end : goal.slice_bounds-write-end
slice_bounds-write-end c = sym (length-take-le _ _ (omega (arith, within _ 393 _ c.in-Ok.ensures.answers)))
