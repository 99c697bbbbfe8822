-- The part behind the counts, as long as the length says.
use mathlib.Core.Path.{◌∙◌, ap}
use native.Mathlib.Omega.{arith}
use lib.ListN.{take, drop, length, length-take}
use Rattle.blockstore.proofs.Laws.{cut}
use Rattle.blockstore.proofs.place.block.Goals as goal

pub returns : goal.returns
returns c =
    let x = c.args.x.now in
    let n = c.u16_at-n in
    let e = cut x 34 n.result c.min.result c.min-2.result c.min.ensures c.min-2.ensures in
    record {
      lies = e ∙ ap (λ k. take k (drop 34 x)) n.ensures;
      short = omega (arith, ap length e, length-take n.result (drop 34 x));
    }
