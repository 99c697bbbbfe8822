-- The count of a place, where it stands in the store.
use mathlib.Core.Path.{◌∙◌, ap}
use Rattle.layout.specs.Bytes.{two}
use Rattle.blockstore.proofs.Laws.{count_there}
use Rattle.blockstore.proofs.place.Count.read.Goals as goal

pub returns : goal.returns
returns c =
    let s = c.args.store.now in
    let own = c.args.self in c.u16_at.ensures ∙ (ap (two s) c.at.ensures ∙ count_there s own.p own.user own.there.1)
