-- Zeros from the first byte on are a made store.
use mathlib.Core.Path.{refl}
use Rattle.refusal.proofs.Match.{gives_refused}
use Rattle.blockstore.proofs.Laws.{make_refused, make_cleared}
use Rattle.blockstore.proofs.make.Goals as goal

pub returns-then-store-ne-SIZE : goal.returns-then-store-ne-SIZE
returns-then-store-ne-SIZE c = gives_refused (make_refused _ c.if-store-ne-SIZE.true) refl

pub returns : goal.returns
returns c = make_cleared _ _ c.if-store-ne-SIZE.false c.clear.ensures
