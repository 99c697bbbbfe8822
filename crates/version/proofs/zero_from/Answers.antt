-- A count is 0 exactly where its four bytes are.
use mathlib.Core.Path.{◌∙◌}
use Rattle.version.proofs.Later.{none_later}
use Rattle.version.proofs.zero_from.Goals as goal

pub returns : goal.returns
returns c = c.zero_between.ensures ∙ none_later c.args.x.now c.args.from
