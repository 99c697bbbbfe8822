use Prim.Native.Nat.{◌-◌, ◌+◌}
use mathlib.Core.Path.{◌≡◌, sym}
use native.Mathlib.Omega.{arith}
use borrow.Author.Count.{below_more}
use Rattle.search.proofs.Search.{every_intro, every_fails}
use Rattle.itable.specs.Block as block
use Rattle.block.proofs.Laws.{read_above, read_below}
use Rattle.block.proofs.ascending.Goals as goal

pub loop-j-init : goal.loop-j-init
loop-j-init c = (c.number-last.ensures, λ m h. absurd (omega arith))

pub returns-then-next-last : goal.returns-then-next-last
unfolding block.ascending
returns-then-next-last c =
    let l = c.loop-j in
    sym
    (every_fails _ _ _ (l.j - 1) (omega arith) (omega (arith, c.used-j-end.ensures, c.loop-j-test.true, l.auto.j))
    (read_above _ _ (omega (arith, l.auto.j)) l.invariant.0 c.number-next.ensures c.if-next-last.true))

pub loop-j-preserved : goal.loop-j-preserved
loop-j-preserved c =
    let l = c.loop-j in
    let e : l.j + 1 - 1 ≡ l.j = omega arith in
    let f : l.j - 1 + 1 ≡ l.j = omega (arith, l.auto.j) in
    let r =
    below_more _ (l.j - 1) l.invariant.1
    (read_below _ _ (omega (arith, l.auto.j)) l.invariant.0 c.number-next.ensures c.if-next-last.false) in
    (rw e c.number-next.ensures, λ m h. r m (omega (arith, e, f)))

pub returns : goal.returns
unfolding block.ascending
returns c =
    let l = c.loop-j in
    sym (every_intro _ _ _ (λ m a h. l.invariant.1 m (omega (arith, c.used-j-end.ensures, c.loop-j-test.false))))
