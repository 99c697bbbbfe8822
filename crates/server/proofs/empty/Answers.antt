-- The list for this number of users with zeros in every place is the empty one, by its definition. There is no loop.
use mathlib.Core.Path.{refl}
use Rattle.protocol.specs.Server.{empty}
use Rattle.server.proofs.empty.Goals as goal

pub returns : goal.returns
unfolding empty
returns c = refl
