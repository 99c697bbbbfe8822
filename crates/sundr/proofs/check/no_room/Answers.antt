-- The users first, and then the length.
use Rattle.search.proofs.Bool.{not_both}
use Rattle.sundr.proofs.Counts.{no_user, other_room}
use Rattle.sundr.proofs.check.no_room.Goals as goal

pub returns-then-not-is_user : goal.returns-then-not-is_user
returns-then-not-is_user c = λ counts again n. no_user _ _ counts again (λ u. not_both (c.is_user.ensures.1 u) (c.if-not-is_user.true))

pub returns : goal.returns
returns c = λ counts again n. other_room _ _ counts again (c.is_user.ensures.0 (c.if-not-is_user.false)) n
