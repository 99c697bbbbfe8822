-- The tests of the definition, in its order; each `return` has the first that fails.
use Rattle.std.proofs.Common.{sym, rules, arith}
use Rattle.refusal.specs.Order.{in_order}
use Rattle.search.specs.Search.{every}
use Rattle.search.proofs.Place.{was_first, was_none}
use Rattle.itable.specs.Write.{write_steps}
use Rattle.itable.proofs.AtMostBlocks.{at_most_blocks}
use Rattle.writer.proofs.admit.Goals as goal

pub returns-then-n-gt-MOST : goal.returns-then-n-gt-MOST
unfolding write_steps in_order
returns-then-n-gt-MOST c = search rules

pub overflow_mul-whole : goal.overflow_mul-whole
overflow_mul-whole c = let most = at_most_blocks _ c.if-n-gt-MOST.false in omega arith

pub returns-in-Some : goal.returns-in-Some
unfolding write_steps in_order every
returns-in-Some c = let f = was_first _ 0 _ (sym c.in-Some.ensures) in search rules

pub returns-then-room-whole : goal.returns-then-room-whole
unfolding write_steps in_order every
returns-then-room-whole c = let f = was_none _ 0 _ (sym c.in_default.ensures) in search rules

pub returns : goal.returns
unfolding write_steps in_order every
returns c = let f = was_none _ 0 _ (sym c.in_default.ensures) in search rules
