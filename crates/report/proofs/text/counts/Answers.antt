use mathlib.Core.List.{append-nil, append_assoc}
use mathlib.Core.Path.{refl, ◌∙◌}
use native.Mathlib.Omega.{arith}
use lib.Seq.{get_or-take}
use Rattle.report.specs.Printed.{all_spaced}
use Rattle.report.proofs.Spaced.{all_spaced_more}
use Rattle.report.proofs.text.counts.Goals as goal

pub loop-count-init : goal.loop-count-init
unfolding all_spaced
loop-count-init c = (rw append-nil, omega arith)

pub loop-count-preserved : goal.loop-count-preserved
loop-count-preserved c =
    let n = c.number.ensures in
    let i = c.loop-count.count-index in
    let all = c.args.counts.now in (
      n.appended ∙
          rw (
            c.loop-count.invariant.0,
            all_spaced_more all i (omega arith),
            append_assoc,
            get_or-take c.min-n.result all i 0 (omega (arith, c.loop-count-test.true)),
          ) refl,
      omega (arith, n.upper_bound, c.loop-count.invariant.1),
    )
