-- Length, count and bytes are put in the place that the search finds, or there is none.
use mathlib.Core.Path.{refl, sym, ◌∙◌}
use Rattle.refusal.proofs.Match.{gives_refused}
use Rattle.blockstore.proofs.Laws.{block_there, full_refused, free_filled}
use Rattle.blockstore.proofs.Calls.{free_at, free_nowhere}
use Rattle.blockstore.proofs.fill_free.Goals as goal

pub returns-in_default : goal.returns-in_default
returns-in_default c =
    let a = c.args in
    let s = a.store.now in
    gives_refused (full_refused s a.user a.block.now (free_nowhere s (sym c.first_free.ensures ∙ c.in_default.is))) refl

pub returns : goal.returns
returns c =
    let a = c.args in
    let s = a.store.now in
    let w = free_at s (sym c.first_free.ensures ∙ c.in-Some.is) in
    free_filled s a.user a.block.now _ w.0 _ w.1
    (block_there s c.requires.0 _ w.1 a.user c.requires.1 a.block.now c.requires.2 _ _ _ _
    c.u16_bytes.ensures c.put.ensures c.write.ensures c.put-2.ensures)
