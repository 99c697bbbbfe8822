-- The tests of kind 11 that are as kind 6's, then that of the indirect block's hash.
use Rattle.std.proofs.Common.{sym, ap, ◌∙◌}
use Rattle.refusal.specs.Order.{tried}
use Rattle.refusal.proofs.Stage.{tells_on, goes_on_to}
use Rattle.inode.specs.Internal.Named.{form_steps}
use Rattle.inode.proofs.Stages.{large_due}
use Rattle.inode.proofs.large.inode_check.Goals as goal

pub returns-in_err-inode_check : goal.returns-in_err-inode_check
returns-in_err-inode_check c =
    tells_on _ _ (large_due _ _) _ c.inode_check.ensures c.from_residual.result c.in_err-inode_check.was c.from_residual.ensures.1

pub returns : goal.returns
returns c =
    c.form_check.ensures ∙
    (ap (λ b. tried (form_steps b 0)) c.zero_exactly.ensures ∙
    sym (goes_on_to _ _ (large_due _ _) _ c.inode_check.ensures c.in_ok-inode_check.was))
