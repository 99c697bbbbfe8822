-- At zero nothing is done; otherwise one less is written.
use mathlib.Core.Path.{refl}
use native.Mathlib.Omega.{arith}
use Rattle.blockstore.proofs.Laws.{takes_none, takes_one}
use Rattle.blockstore.proofs.uncount_one.Goals as goal

pub returns-in_default : goal.returns-in_default
returns-in_default c =
    let own = c.args.own in
    rw (takes_none c.args.store.now own.p own.user (omega (arith, c.read.ensures, c.in_default.ensures))) (record { took = refl; after = refl })

pub returns : goal.returns
returns c =
    let own = c.args.own in
    let e = takes_one c.args.store.now own.p own.user (λ e. omega (arith, c.read.ensures, c.in-Some.ensures)) in
    rw e (record { took = refl; after = rw (c.in-Some.ensures.1, c.read.ensures) at c.write.ensures })
