-- What `find` says of the slots passed, and of the one found.
use Rattle.std.proofs.Common.{◌≡◌, true, false, eqb, tests, arith, rules}
use Rattle.std.proofs.lemmas.Iterator.{first_from_Range}
use Rattle.itable.specs.Block.{number}
use Rattle.search.proofs.Place.{first_is}
use Rattle.block.proofs.slot_of.Goals as goal

pub returns : goal.returns
returns c =
    first_is _ _ c.used.ensures _
    (first_from_Range _ _ _ _ (λ j. eqb (number c.args.b.now j) c.args.i ≡ true) (λ j. eqb (number c.args.b.now j) c.args.i ≡ false)
    c.find.ensures.ran (λ x q k. grind (arith, tests)) (λ x q k. (search rules, grind (arith, tests))))
