-- What `find` says of the slots from the last on.
use Rattle.std.proofs.Common.{leb, tests, arith, rules}
use Rattle.std.proofs.lemmas.Iterator.Search.{find_from_yields_List}
use Rattle.itable.specs.Block.{number}
use Rattle.block.proofs.Places.{last_is, gives_down}
use Rattle.block.proofs.last_at_most.Goals as goal

pub returns : goal.returns
returns c =
    last_is _ _ _ c.rev.ensures.source c.used.ensures _
    (find_from_yields_List (λ j. leb (number c.args.b.now j) c.args.i) _ _ _ c.find.ensures.ran (gives_down _)
    (λ x b q k. (search rules, grind (arith, tests))))
