use mathlib.Core.Path.{sym}
use native.Mathlib.Omega.{arith}
use lib.Seq.{take_all, length-take-le}
use Rattle.lookup.proofs.whole.Goals as goal

pub slice_bounds-result-end : goal.slice_bounds-result-end
slice_bounds-result-end c = sym (length-take-le 642 c.args.chunk.now (omega (arith, c.requires)))

pub returns : goal.returns
returns c = take_all 642 c.args.chunk.now (omega (arith, c.requires))
