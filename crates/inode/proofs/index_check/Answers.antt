-- The definition's one test.
use Rattle.std.proofs.Common.{rules}
use Rattle.refusal.specs.Order.{in_order}
use Rattle.itable.specs.Inode.{index_steps}
use Rattle.inode.proofs.index_check.Goals as goal

pub returns-then-file_blocks-k : goal.returns-then-file_blocks-k
unfolding index_steps in_order
returns-then-file_blocks-k c = search rules

pub returns : goal.returns
unfolding index_steps in_order
returns c = search rules
