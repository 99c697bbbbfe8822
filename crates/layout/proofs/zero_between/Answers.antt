use mathlib.Core.Bool.{◌&&◌}
use mathlib.Core.Path.{sym, ap, ◌∙◌}
use native.Mathlib.Omega.{arith}
use lib.Dec.{eqb}
use lib.ListN.{get_or}
use Rattle.search.proofs.Search.{every_intro}
use Rattle.layout.specs.Strings.{zeros}
use Rattle.layout.proofs.Zeros.{zeros_next, zeros_reach}
use Rattle.layout.proofs.zero_between.Goals as goal

pub loop-x-init : goal.loop-x-init
unfolding zeros
loop-x-init c = (omega arith, sym (every_intro _ _ _ (λ j a b. absurd (omega arith))))

pub loop-x-preserved : goal.loop-x-preserved
loop-x-preserved c =
    let l = c.loop-x in
    let a = c.args in (
      omega arith,
      ap (λ t. t && eqb (get_or a.b.now l.x 0) 0) l.invariant.1 ∙ sym (zeros_next a.b.now a.from l.x (omega arith)),
    )

pub returns : goal.returns
returns c =
    let l = c.loop-x in
    let a = c.args in
    l.invariant.1 ∙ zeros_reach a.b.now a.from l.x (omega arith) a.to l.invariant.0 (omega arith)
