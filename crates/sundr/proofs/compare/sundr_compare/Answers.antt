-- The number is that of the answer, and the answer is the layer's. There is no loop.
use mathlib.Core.Path.{ap, ◌∙◌}
use Rattle.sundr.specs.Compare.{standing_number}
use Rattle.sundr.proofs.compare.sundr_compare.Goals as goal

pub returns : goal.returns
returns c =
    rw (c.number.ensures ∙ ap standing_number c.compare.ensures) at c.word.ensures
