-- The test of the number by itself decides the answer: where it refuses, the empty list for one user comes back, and where it passes, the one
-- for this number. There is no loop.
use Rattle.refusal.proofs.Stage.{gives_passed, gives_refused}
use Rattle.protocol.specs.Server.{empty, make_steps, make}
use Rattle.server.proofs.make.Goals as goal

pub returns-in-Ok : goal.returns-in-Ok
unfolding make
returns-in-Ok c =
    let n = c.args.users in
    let k = c.make_check-check in
    gives_passed (make_steps n) k.result k.ensures (empty 1) (empty n) c.empty.ensures c.in-Ok.is

pub returns-in-Err : goal.returns-in-Err
unfolding make
returns-in-Err c =
    let n = c.args.users in
    let k = c.make_check-check in
    gives_refused (make_steps n) k.result k.ensures (empty 1) (empty n) c.empty-in-Err.ensures c.in-Err.is
