-- The hash, the form and the search, in the order of the definition; each `return` has the test that fails.
use mathlib.Core.Path.{sym, ◌∙◌}
use Rattle.lookup.proofs.Laws.{other_hash, not_formed, searched}
use Rattle.lookup.proofs.one_block.Goals as goal

pub returns-then-not-is_hash : goal.returns-then-not-is_hash
returns-then-not-is_hash c = other_hash _ c.requires _ _ _ (sym c.is_hash.ensures ∙ c.if-not-is_hash.true)

pub returns-then-not-well_formed : goal.returns-then-not-well_formed
returns-then-not-well_formed c =
    not_formed _ c.requires _ _ _ (sym c.is_hash.ensures ∙ c.if-not-is_hash.false)
    (sym c.well_formed-2.ensures ∙ c.if-not-well_formed.true)

pub returns : goal.returns
returns c =
    searched _ c.requires _ _ _ (sym c.is_hash.ensures ∙ c.if-not-is_hash.false)
    (sym c.well_formed-2.ensures ∙ c.if-not-well_formed.false) c.search.ensures
