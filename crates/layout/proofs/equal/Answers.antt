-- Strings of other lengths differ; of strings of one length each byte is compared.
use mathlib.Core.Bool.{◌&&◌}
use mathlib.Core.Path.{◌≡◌, refl, sym, ap, ◌∙◌}
use native.Mathlib.Omega.{arith}
use lib.Dec.{eqb}
use lib.ListN.{length, get_or}
use Rattle.search.specs.Search.{find, every}
use Rattle.search.proofs.Search.{every_more}
use Rattle.layout.proofs.Strings.{differ_same, same_every}
use Rattle.layout.proofs.equal.Goals as goal

pub returns-then-a-b : goal.returns-then-a-b
returns-then-a-b c = sym (differ_same _ _ (λ e. c.if-a-b.true (ap length e)))

pub loop-i-init : goal.loop-i-init
unfolding every find
loop-i-init c = (c.if-a-b.false, refl)

pub loop-i-preserved : goal.loop-i-preserved
loop-i-preserved c =
    let a = c.args in
    let l = c.loop-i in (
      l.invariant.0,
      ap (λ t. t && eqb (get_or a.a.now l.i 0) (get_or a.b.now l.i 0)) l.invariant.1 ∙
          sym (every_more (λ j. eqb (get_or a.a.now j 0) (get_or a.b.now j 0)) l.i),
    )

pub returns : goal.returns
returns c =
    let e : c.loop-i.i ≡ length c.args.a.now = omega arith in
    (rw e at c.loop-i.invariant.1) ∙ same_every _ _ c.loop-i.invariant.0
