use Rattle.std.proofs.Common.{◌≡◌, sym, ap, not, false, arith, rules}
use borrow.Author.Count.{below_more}
use Rattle.search.proofs.Place.{first_at, first_none}
use Rattle.itable.specs.Write.{number_above}
use Rattle.writer.proofs.not_above.Goals as goal

pub loop-i-init : goal.loop-i-init
unfolding number_above
loop-i-init c = λ m h. let e : m ≡ 0 = omega arith in rw e

pub returns-then-numbers-i : goal.returns-then-numbers-i
unfolding number_above
returns-then-numbers-i c =
    let l = c.loop-i in
    let below : number_above c.args.numbers.now l.i ≡ false = search rules in
    sym (first_at _ 0 _ _ (omega arith) (omega arith) (λ m a b. ap not (l.invariant m b)) (ap not below))

pub loop-i-preserved : goal.loop-i-preserved
unfolding number_above
loop-i-preserved c = below_more _ _ c.loop-i.invariant (search rules)

pub returns : goal.returns
returns c = sym (first_none _ 0 _ (λ m a l. ap not (c.loop-i.invariant m (omega arith))))
