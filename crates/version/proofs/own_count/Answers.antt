-- The count of the owner that was read.
use mathlib.Core.Path.{ap, ◌∙◌}
use Rattle.protocol.specs.Version.{count}
use Rattle.version.proofs.own_count.Goals as goal

pub returns : goal.returns
returns c = c.count.ensures ∙ ap (count c.args.x.now) c.owner.ensures
