-- The part of the store is the place.
use Rattle.blockstore.proofs.Laws.{part_there}
use Rattle.blockstore.proofs.place.at.Goals as goal

pub returns : goal.returns
returns c = part_there c.args.store.now c.args.p
