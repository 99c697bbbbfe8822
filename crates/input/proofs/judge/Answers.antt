-- The answer is that of the parts, and none where the input has none.
use Rattle.std.proofs.Common.{rules}
use Rattle.input.proofs.Told.{told_parts}
use Rattle.input.proofs.judge.Goals as goal

pub returns : goal.returns
returns c =
    let p = c.parse.ensures in record {
      says = told_parts c.args.input.now _ _ p.variant p.handle p.memory p.sent (search rules);
      users = c.byte_at-users.ensures;
      user = c.byte_at-user.ensures;
    }
