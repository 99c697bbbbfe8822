use Prim.Native.Nat.{ℕ}
use mathlib.Core.Path.{◌≡◌, refl, sym, ◌∙◌}
use native.Mathlib.Omega.{arith}
use lib.ListN.{get_or}
use lib.Seq.{take_all}
use Rattle.layout.specs.Bytes.{bytes4}
use Rattle.protocol.specs.Version.{counts as counts_of}
use Rattle.create.proofs.Written.{count_length, count_more}
use Rattle.create.proofs.record.write_counts.Goals as goal

pub loop-v-init : goal.loop-v-init
unfolding counts_of
loop-v-init c = (c.requires.out_len, refl)

pub loop-v-preserved : goal.loop-v-preserved
loop-v-preserved c =
    let f : ℕ → ℕ = λ w. get_or c.args.counts.now w 0 in
    let e : c.write_count.new.out ≡ bytes4 (f c.loop-v.v) = c.write_count.ensures in (
      count_length f c.loop-v.out _ c.loop-v.v (omega arith) e ∙ c.loop-v.invariant.0,
      count_more f c.loop-v.out _ c.loop-v.v (omega arith) e c.loop-v.invariant.1,
    )

pub returns : goal.returns
returns c =
    let e : c.loop-v.v ≡ 16 = omega arith in
    sym (take_all 64 c.loop-v.out (omega arith)) ∙ (rw e at c.loop-v.invariant.1)
