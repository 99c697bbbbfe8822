-- One test.
use Rattle.std.proofs.Common.{rules}
use Rattle.refusal.specs.Order.{in_order}
use Rattle.inode.specs.Internal.Named.{form_steps}
use Rattle.inode.proofs.form_check.Goals as goal

pub returns : goal.returns
unfolding form_steps in_order
returns c = search rules
