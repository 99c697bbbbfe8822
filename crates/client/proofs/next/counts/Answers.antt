use Prim.Native.Nat.{◌+◌, ◌-◌}
use mathlib.Core.Path.{◌≡◌, refl, sym, ap, ◌∙◌}
use native.Mathlib.Omega.{arith}
use lib.ListN.{length-set}
use Rattle.protocol.specs.Version.{count}
use Rattle.protocol.specs.List.{record_at}
use Rattle.client.proofs.Tally.{none_passed, one_passed, all_passed}
use Rattle.client.proofs.next.counts.Goals as goal

pub loop-i-init : goal.loop-i-init
loop-i-init c = (refl, rw c.len-i.ensures.count (none_passed c.args.list.now (omega arith)))

pub loop-i-preserved : goal.loop-i-preserved
loop-i-preserved c =
    let list = c.args.list.now in
    let i = c.loop-i.i - 1 in
    let e : c.loop-i.i ≡ i + 1 = omega arith in (
      simp length-set c.loop-i.invariant.0,
      one_passed list c.loop-i.counts i _ _ (omega arith) c.loop-i.invariant.0 (sym c.owner-v.ensures)
          (omega (arith, c.owner-v.ensures, c.requires.by_index i (omega arith)))
          (c.own_count.ensures ∙ ap (count (record_at list i)) (sym c.owner-v.ensures)) (rw e at c.loop-i.invariant.1),
    )

pub returns : goal.returns
returns c =
    let z : c.loop-i.i ≡ 0 = omega arith in
    all_passed _ _ _ c.loop-i.counts _ c.loop-i.invariant.0 (omega arith) (ap (◌+ 1) c.count.ensures) (rw z at c.loop-i.invariant.1)
