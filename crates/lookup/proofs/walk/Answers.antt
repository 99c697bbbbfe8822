use mathlib.Core.Path.{refl, sym, ◌∙◌}
use native.Mathlib.Omega.{arith}
use native.Mathlib.Nat.{sub-zero}
use Rattle.lookup.proofs.Along.{none_left, refuses, ends_here, leads_on, chunk_within, chunk_block, chunk_rest, chunk_none}
use Rattle.lookup.proofs.walk.Goals as goal

pub loop-d-init : goal.loop-d-init
loop-d-init c =
    let e = c.into_iter-d-iterator.ensures.into_iter_gives in
    let n = c.enumerate-d-items.ensures.count in
    let s = c.enumerate-d-items.ensures.source in
    rw (e, n, s, sub-zero) (omega arith, c.chunks_exact.ensures.size, c.chunks_exact.ensures.rest, refl)

pub returns-in_err-slot : goal.returns-in_err-slot
returns-in_err-slot c =
    let l = c.loop-d in
    let i = l.invariant in
    let t = c.in-Some.ensures.steps in
    let path = c.args.path.now in
    let d = l.d-iterator.count in
    let e = sym i.2 ∙ t.0.1.0 in
    let w = t.0.1.1 ∙ i.1 in
    refuses path _ _ d _ i.3 (chunk_within path _ _ _ d c.requires.0 i.0 e w) _ (chunk_block path _ _ _ d c.requires.0 i.0 e w)
    (rw (c.whole-b.ensures, t.1) at c.one_block.ensures) c.in_err-slot.was _ c.from_residual.ensures.1

pub returns-in-Ends : goal.returns-in-Ends
returns-in-Ends c =
    let l = c.loop-d in
    let i = l.invariant in
    let t = c.in-Some.ensures.steps in
    let path = c.args.path.now in
    let d = l.d-iterator.count in
    let e = sym i.2 ∙ t.0.1.0 in
    let w = t.0.1.1 ∙ i.1 in
    ends_here path _ _ d _ i.3 (chunk_within path _ _ _ d c.requires.0 i.0 e w) _ (chunk_block path _ _ _ d c.requires.0 i.0 e w)
    (rw (c.whole-b.ensures, t.1) at c.one_block.ensures) c.in_ok-slot.was c.in-Ends.is _ (rw (c.whole-b.ensures, t.1) at c.ended.ensures)

pub loop-d-preserved : goal.loop-d-preserved
loop-d-preserved c =
    let l = c.loop-d in
    let i = l.invariant in
    let t = c.in-Some.ensures.steps in
    let path = c.args.path.now in
    let d = l.d-iterator.count in
    let e = sym i.2 ∙ t.0.1.0 in
    let w = t.0.1.1 ∙ i.1 in
    let h = chunk_within path _ _ _ d c.requires.0 i.0 e w in
    rw t.2 (
      omega arith,
      t.0.0 ∙ i.1,
      chunk_rest path _ _ _ d c.requires.0 i.0 e w,
      leads_on path _ _ d _ i.3 h _ (chunk_block path _ _ _ d c.requires.0 i.0 e w)
          (rw (c.whole-b.ensures, t.1) at c.one_block.ensures) c.in_ok-slot.was c.in-Leads.is (rw c.whole-b.ensures at c.child-link.ensures),
    )

pub returns : goal.returns
returns c =
    let l = c.loop-d in
    let i = l.invariant in
    let t = c.in-None.ensures.steps in
    none_left _ _ _ _ _ i.3 (chunk_none c.args.path.now _ _ _ c.requires.0 i.2 (omega (arith, t.0.1.0, i.1))) i.0
