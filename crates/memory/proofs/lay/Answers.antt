-- Two bytes are written, and the structure is copied behind them.
use mathlib.Core.Path.{sym}
use native.Mathlib.Omega.{arith}
use lib.Seq.{take_all, length-take-le}
use Rattle.memory.proofs.Laid.{laid}
use Rattle.memory.proofs.lay.Goals as goal

pub slice_bounds-copy-end : goal.slice_bounds-copy-end
slice_bounds-copy-end c = sym (length-take-le 98 c.args.x.now (omega (arith, c.requires.x_len)))

pub shape_of-out : goal.shape_of-out
shape_of-out c =
    let a = c.args in
    rw (laid 7 a.state a.x.now _ a.out.now (omega arith) (omega arith) ((rw (take_all 98 a.x.now (omega arith)) at c.copy.ensures.copied) (omega arith))) (omega arith)

pub returns : goal.returns
returns c =
    let a = c.args in
    laid 7 a.state a.x.now _ a.out.now (omega arith) (omega arith) ((rw (take_all 98 a.x.now (omega arith)) at c.copy.ensures.copied) (omega arith))
