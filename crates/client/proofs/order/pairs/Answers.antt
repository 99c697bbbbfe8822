use Prim.Native.Nat.{ℕ, ◌<◌}
use mathlib.Core.Path.{ap, ◌∙◌}
use native.Mathlib.Omega.{arith}
use borrow.Author.Count.{below_more}
use Rattle.search.proofs.Search.{span_more}
use Rattle.protocol.specs.List.{records}
use Rattle.protocol.specs.Check.{ordered}
use Rattle.version.specs.declared.Version.{Version}
use Rattle.client.proofs.Apart.{apart, together, compared, compared_new}
use Rattle.client.proofs.order.pairs.Goals as goal

pub returns-then-not-comparable : goal.returns-then-not-comparable
returns-then-not-comparable c =
    let counts = λ (i : ℕ) (h : i < records c.args.list.now). ap (λ (v : Version). v.counts) (c.read_list.ensures i h) in
    λ new e.
    apart (ordered c.args.list.now new) _ c.loop-i.i c.loop-j.j (omega arith) (omega arith)
    (λ m h k a b. c.loop-i.invariant new e m h k a (omega arith))
    (c.loop-j.invariant new)
    (compared _ new _ _ _ (counts _ (omega arith)) _ _ (omega arith) (counts _ (omega arith)) c.comparable.ensures ∙
    c.if-not-comparable.true)

pub loop-j-preserved : goal.loop-j-preserved
loop-j-preserved c =
    let counts = λ (i : ℕ) (h : i < records c.args.list.now). ap (λ (v : Version). v.counts) (c.read_list.ensures i h) in
    λ new.
    span_more _ _ (c.loop-j.invariant new)
    (compared _ new _ _ _ (counts _ (omega arith)) _ _ (omega arith) (counts _ (omega arith)) c.comparable.ensures ∙
    c.if-not-comparable.false)

pub returns-then-not-strictly_before : goal.returns-then-not-strictly_before
returns-then-not-strictly_before c =
    let counts = λ (i : ℕ) (h : i < records c.args.list.now). ap (λ (v : Version). v.counts) (c.read_list.ensures i h) in
    λ new e.
    apart (ordered c.args.list.now new) _ c.loop-i.i c.len-n.result (omega arith) (omega arith)
    (λ m h k a b. c.loop-i.invariant new e m h k a (omega arith))
    (λ m a b. c.loop-j.invariant new m a (omega arith))
    (compared_new _ new _ _ _ (counts _ (omega arith)) _ _ (omega arith) e c.strictly_before.ensures ∙ c.if-not-strictly_before.true)

pub loop-i-preserved : goal.loop-i-preserved
loop-i-preserved c =
    let counts = λ (i : ℕ) (h : i < records c.args.list.now). ap (λ (v : Version). v.counts) (c.read_list.ensures i h) in
    λ new e.
    below_more _ _ (c.loop-i.invariant new e)
    (λ m a b.
    span_more _ c.len-n.result (λ k h l. c.loop-j.invariant new k h (omega arith))
    (compared_new _ new _ _ _ (counts _ (omega arith)) _ _ (omega arith) e c.strictly_before.ensures ∙ c.if-not-strictly_before.false) m
    a (omega arith))

pub returns-after-loop-i : goal.returns-after-loop-i
returns-after-loop-i c =
    λ new e. together (ordered c.args.list.now new) _ (λ m h k a b. c.loop-i.invariant new e m (omega arith) k a (omega arith))
