-- The search stops at the first user at whom test 7 fails.
use mathlib.Core.Bool.{true, false, not}
use mathlib.Core.Path.{◌≡◌, refl}
use Rattle.std.proofs.Common.{rules}
use Rattle.std.proofs.lemmas.Iterator.{first_from_Range}
use Rattle.protocol.specs.Server.{follows}
use Rattle.search.proofs.Place.{first_is}
use Rattle.server.proofs.held.Lent.first_apart.Goals as goal

pub returns : goal.returns
returns c = λ x n.
    let s = c.args.self.now in
    first_is (λ v. not (follows s x v)) 16 refl c.find.result
    (first_from_Range _ _ _ c.find.result (λ v. not (follows s x v) ≡ true) (λ v. not (follows s x v) ≡ false) c.find.ensures.ran (λ v q k. search rules) (λ v q k. search rules))
