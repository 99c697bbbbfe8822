use Rattle.std.proofs.Common.{◌≡◌, ◌*◌, sym, refl, ◌∙◌, arith, length-set, take_all}
use Rattle.layout.specs.Bytes.{four, values}
use Rattle.layout.proofs.Values.{filled}
use Rattle.sha256.proofs.block.load.Goals as goal

pub loop-t-init : goal.loop-t-init
unfolding values
loop-t-init c = (c.args.w.now.long, refl)

pub loop-t-preserved : goal.loop-t-preserved
unfolding four
loop-t-preserved c =
    let l = c.loop-t in
    let words = l.w.words in
    let b = c.args.block.now in (
      length-set words l.t c.join.result ∙ l.invariant.0,
      filled (λ u. four b (4 * u)) words l.t c.join.result (omega arith) l.invariant.1 c.join.ensures,
    )

pub returns : goal.returns
returns c =
    let l = c.loop-t in
    let e : l.t ≡ 16 = omega arith in
    sym (take_all 16 l.w.words (omega (arith, l.invariant.0))) ∙ rw e at l.invariant.1
