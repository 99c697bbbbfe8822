use mathlib.Core.Path.{◌≡◌}
use native.Mathlib.Omega.{arith}
use lib.ListN.{length}
use Rattle.block.proofs.Filling.{fill_none, fill_next, fill_all}
use Rattle.block.proofs.fill.entries.Goals as goal

pub loop-j-init : goal.loop-j-init
loop-j-init c = fill_none c.args.kind c.args.numbers.now c.args.values.now c.requires.0 c.requires.1 c.args.out.now c.requires.2

pub loop-j-preserved : goal.loop-j-preserved
loop-j-preserved c =
    let l = c.loop-j in
    fill_next _ c.args.numbers.now c.args.values.now c.requires.0 c.requires.1 l.out _ l.j l.invariant.0 c.loop-j-test.true
    l.invariant.1 c.slot.ensures

pub returns : goal.returns
returns c =
    let l = c.loop-j in
    let e : l.j ≡ length c.args.numbers.now = omega (arith, l.auto.j-end) in
    fill_all _ _ _ c.requires.0 c.requires.1 _ _ l.invariant.0 (rw e at l.invariant.1) c.clear.ensures
