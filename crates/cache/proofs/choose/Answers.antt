-- The tests of the definition, in its order; each `return` has the first that fails, or the first part that fits.
use Rattle.std.proofs.Common.{rules}
use Rattle.refusal.specs.Order.{in_order}
use Rattle.cache.specs.Choose as spec
use Rattle.cache.specs.Choose.{choose_steps}
use Rattle.cache.proofs.choose.Goals as goal

pub returns-then-wanted-ne-HASH : goal.returns-then-wanted-ne-HASH
unfolding spec.choose choose_steps in_order
returns-then-wanted-ne-HASH c = search rules

pub returns-then-fits : goal.returns-then-fits
unfolding spec.choose choose_steps in_order
returns-then-fits c = search rules

pub returns-then-fits-2 : goal.returns-then-fits-2
unfolding spec.choose choose_steps in_order
returns-then-fits-2 c = search rules

pub returns : goal.returns
unfolding spec.choose choose_steps in_order
returns c = search rules
