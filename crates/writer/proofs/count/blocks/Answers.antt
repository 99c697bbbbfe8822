-- The definition: each row over the row below.
use Rattle.std.proofs.Common.{rules}
use Rattle.itable.specs.Table as table
use Rattle.writer.proofs.count.blocks.Goals as goal

pub returns : goal.returns
unfolding table.blocks
returns c = search rules
