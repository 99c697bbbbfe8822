-- The two bytes of the count are put where it stands.
use mathlib.Core.Path.{sym, ◌∙◌}
use Rattle.store.proofs.Changed.{recount_put}
use Rattle.blockstore.proofs.place.Count.write.Goals as goal

pub returns : goal.returns
returns c =
    let own = c.args.self in
    rw (c.at.ensures, c.u16_bytes.ensures) at c.put.ensures ∙
    sym (recount_put c.args.store.now c.requires own.p own.there.0 own.user own.there.1 c.args.n)
