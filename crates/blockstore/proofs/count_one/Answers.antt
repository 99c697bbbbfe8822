-- At the last count it is refused; otherwise one more is written.
use mathlib.Core.Path.{refl}
use native.Mathlib.Omega.{arith}
use Rattle.refusal.proofs.Match.{gives_refused}
use Rattle.blockstore.proofs.Laws.{accepts, last_refused, counts_once}
use Rattle.blockstore.proofs.count_one.Goals as goal

pub returns-in_default : goal.returns-in_default
returns-in_default c =
    let own = c.args.own in
    gives_refused (last_refused c.args.store.now own.p own.user (omega (arith, c.read.ensures, c.in_default.ensures))) refl

pub returns : goal.returns
returns c =
    let own = c.args.own in
    accepts (counts_once c.args.store.now own.p own.user (λ e. omega (arith, c.read.ensures, c.in-Some.ensures)))
    (rw (c.in-Some.ensures.1, c.read.ensures) at c.write.ensures)
