-- The first number at which the test of the code holds is where the search of the definition stops.
use mathlib.Core.Bool.{true, false}
use mathlib.Core.Path.{◌≡◌, refl}
use Rattle.std.proofs.Common.{rules, tests}
use Rattle.std.proofs.lemmas.Iterator.{first_from_Range}
use Rattle.store.specs.Place.{place, free}
use Rattle.search.proofs.Place.{first_is}
use Rattle.blockstore.proofs.places.first_free.Goals as goal

pub returns : goal.returns
returns c =
    let s = c.args.store.now in
    first_is _ 64 refl _
    (first_from_Range _ _ _ c.find.result (λ p. free (place s p) ≡ true) (λ p. free (place s p) ≡ false) c.find.ensures.ran (λ v q k. search (rules, tests)) (λ v q k. search (rules, tests)))
