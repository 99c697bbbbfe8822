use mathlib.Core.Path.{◌≡◌, refl}
use native.Mathlib.Omega.{arith}
use lib.ListN.{length-append}
use Rattle.protocol.specs.Server.{held_from}
use Rattle.server.proofs.Slots.{held_more}
use Rattle.server.proofs.held.Lent.length.Goals as goal

pub loop-v-init : goal.loop-v-init
unfolding held_from
loop-v-init c = record { so_far = refl; few = omega arith }

pub loop-v-preserved : goal.loop-v-preserved
loop-v-preserved c =
    let l = c.loop-v in
    let h = c.held.ensures in
    record {
      so_far = rw (held_more c.args.self.now l.v, h.record) (simp length-append (omega (arith, l.invariant.so_far)));
      few = omega (arith, l.invariant.few, h.one);
    }

pub returns : goal.returns
returns c = let e : c.loop-v.v ≡ 16 = omega arith in rw e at c.loop-v.invariant.so_far
