-- The tests of the definition, in its order; each `return` has the first that fails.
use Rattle.std.proofs.Common.{rules, sym, ap, ◌∙◌}
use Rattle.refusal.specs.Order.{in_order, tried}
use Rattle.refusal.proofs.Stage.{tells_on, goes_on_to}
use Rattle.inode.specs.Internal.Named.{handle_steps, form_steps}
use Rattle.inode.proofs.Stages.{kind_due}
use Rattle.inode.proofs.inode_check.Goals as goal

pub returns-then-handle-ne-HASH : goal.returns-then-handle-ne-HASH
unfolding handle_steps in_order
returns-then-handle-ne-HASH c = search rules

pub returns-in_err-named : goal.returns-in_err-named
returns-in_err-named c =
    let d = kind_due _ _ _ _ _ c.if-handle-ne-HASH.false in
    tells_on _ _ d _ c.named.ensures c.from_residual.result c.in_err-named.was c.from_residual.ensures.1

pub returns : goal.returns
returns c =
    let d = kind_due _ _ _ _ _ c.if-handle-ne-HASH.false in
    c.form_check.ensures ∙
    (ap (λ b. tried (form_steps b 0)) c.hashes_fit.ensures ∙ sym (goes_on_to _ _ d _ c.named.ensures c.in_ok-named.was))
