-- The tests of the definition, in its order; each `return` has the first that fails.
use Rattle.std.proofs.Common.{sym, ◌∙◌, arith, rules}
use Rattle.refusal.specs.Order.{in_order}
use Rattle.sha256.proofs.Laws.{is_hash_means}
use Rattle.inode.specs.Internal.Named.{named_steps}
use Rattle.inode.proofs.named.Goals as goal

pub returns-then-b-size : goal.returns-then-b-size
unfolding named_steps in_order
returns-then-b-size c = search rules

pub returns-then-not-is_hash : goal.returns-then-not-is_hash
unfolding named_steps in_order
returns-then-not-is_hash c =
    let a = c.args in
    let h = sym (is_hash_means a.b.now a.hash.now (omega arith)) ∙ (sym c.is_hash.ensures ∙ c.if-not-is_hash.true) in
    search rules

pub returns : goal.returns
unfolding named_steps in_order
returns c =
    let a = c.args in
    let h = sym (is_hash_means a.b.now a.hash.now (omega arith)) ∙ (sym c.is_hash.ensures ∙ c.if-not-is_hash.false) in
    search rules
