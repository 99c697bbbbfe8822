-- The tests of bytes that a hash names, then the form's.
use Rattle.std.proofs.Common.{sym, ap, ◌∙◌}
use Rattle.refusal.specs.Order.{tried}
use Rattle.refusal.proofs.Stage.{tells_on, goes_on_to}
use Rattle.inode.specs.Internal.Named.{form_steps}
use Rattle.inode.proofs.Stages.{indirect_due}
use Rattle.inode.proofs.large.indirect_check.Goals as goal

pub returns-in_err-named : goal.returns-in_err-named
returns-in_err-named c =
    let e = rw c.hash_at-hash.ensures at c.named.ensures in
    tells_on _ _ (indirect_due _ _) _ e c.from_residual.result c.in_err-named.was c.from_residual.ensures.1

pub returns : goal.returns
returns c =
    let e = rw c.hash_at-hash.ensures at c.named.ensures in
    c.form_check.ensures ∙
    (ap (λ b. tried (form_steps b 2)) c.indirect_formed.ensures ∙ sym (goes_on_to _ _ (indirect_due _ _) _ e c.in_ok-named.was))
