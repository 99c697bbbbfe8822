-- The two tests, each over all that it looks at before the next.
use Rattle.client.proofs.Placed.{misplaced, unmarked, all_formed}
use Rattle.client.proofs.forms.forms.Goals as goal

pub returns-in-Some : goal.returns-in-Some
returns-in-Some c = λ user held t. misplaced _ user held _ _ t _ c.first_misplaced.ensures c.in-Some.is

pub returns-in-Some-first_unmarked : goal.returns-in-Some-first_unmarked
returns-in-Some-first_unmarked c =
    λ user held t. unmarked _ user held _ _ t _ c.first_misplaced.ensures c.in_default.is _ c.requires c.first_unmarked.ensures c.in-Some-first_unmarked.is

pub returns : goal.returns
returns c =
    λ user held t. all_formed _ user held _ _ t _ c.first_misplaced.ensures c.in_default.is _ c.requires c.first_unmarked.ensures c.in_default-first_unmarked.is
