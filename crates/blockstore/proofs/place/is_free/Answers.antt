-- Sixteen counts are zero where their 32 bytes are.
use mathlib.Core.Path.{◌∙◌}
use Rattle.blockstore.proofs.Laws.{free_bytes}
use Rattle.blockstore.proofs.place.is_free.Goals as goal

pub returns : goal.returns
returns c = c.zero_between.ensures ∙ free_bytes _
