-- The queue is rolled on, or left. There is no loop.
use Rattle.std.proofs.Common.{ap, ◌∙◌, lt-ltb, le-ltb}
use Rattle.sha256.specs.Internal.Rolling.{after_round}
use Rattle.sha256.proofs.rounds.turn.Goals as goal
use Rattle.sha256.proofs.rounds.turn.Goals.{then-t-lt48, else-t-lt48}

pub returns-clause-leaves : goal.returns-clause-leaves
unfolding after_round
returns-clause-leaves c =
    let t = c.args.t in
    elim c.if-t-lt48.branch [
      | then-t-lt48 w ↦ rw (lt-ltb t 48 w.if-t-lt48.true) (ap (λ q. q.words) w.w-is ∙ w.roll.ensures)
      | else-t-lt48 w ↦ rw (le-ltb t 48 w.if-t-lt48.false) (ap (λ q. q.words) w.w-is)
    ]
