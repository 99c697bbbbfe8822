-- A count that ends the search is not 0, and where none does, each is.
use Rattle.std.proofs.Common.{◌≡◌, ◌∙◌, drop, rules, tests, arith}
use Rattle.std.proofs.lemmas.Iterator.{cases_from_all, YieldsList-from_slice}
use lib.ListN.{length-drop}
use lib.Seq.{take_all}
use Rattle.create.proofs.Counted.{zero_by}
use Rattle.create.proofs.counts.zero_from.Goals as goal

pub returns : goal.returns
returns c =
    let behind = drop c.args.from c.args.counts.now in
    let e = c.iter.ensures.rest ∙ take_all _ behind (simp length-drop (omega arith)) in
    zero_by c.args.counts.now c.args.from 16 c.all.result c.requires.counts_len c.requires.from_le
    (cases_from_all _ _ _ (λ x. x ≡ 0) (λ x. x ≡ 0 → ⊥) c.all.ensures.ran (YieldsList-from_slice behind e)
    (λ x q k. search (rules, tests)) (λ x q k. search (rules, tests)))
