-- From the end of the used slots to that of the block.
use mathlib.Core.Path.{◌∙◌}
use Rattle.block.proofs.Laws.{unused_is}
use Rattle.block.proofs.unused_zero.Goals as goal

pub returns : goal.returns
returns c = c.zero_between.ensures ∙ unused_is _ _ (c.from.ensures ∙ c.used.ensures)
