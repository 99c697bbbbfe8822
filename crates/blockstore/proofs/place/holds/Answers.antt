-- A free place holds nothing; otherwise the hash of the block decides.
use mathlib.Core.Path.{sym, ◌∙◌}
use Rattle.store.specs.Place.{holds}
use Rattle.blockstore.proofs.Laws.{block_hashed}
use Rattle.blockstore.proofs.place.holds.Goals as goal

pub returns-then-not-is_free : goal.returns-then-not-is_free
returns-then-not-is_free c =
    let b = c.block in
    block_hashed c.args.x.now _ _ _ b.ensures.lies b.ensures.short (sym c.is_free.ensures ∙ c.if-not-is_free.true) c.is_hash.ensures

pub returns-else-not-is_free : goal.returns-else-not-is_free
unfolding holds
returns-else-not-is_free c = rw (c.is_free.ensures, sym c.is_free.ensures ∙ c.if-not-is_free.false)
