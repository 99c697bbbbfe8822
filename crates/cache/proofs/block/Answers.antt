-- The part of a choice that is the definition's. There is no loop.
use Rattle.cache.proofs.block.Goals as goal

pub returns : goal.returns
returns c = rw c.choose.ensures at c.part.ensures
