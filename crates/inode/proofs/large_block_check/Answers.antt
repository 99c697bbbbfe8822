-- The three stages in the definition's order.
use Rattle.std.proofs.Common.{sym, ap, ◌∙◌, arith}
use Rattle.refusal.specs.Refusal.{said}
use Rattle.refusal.proofs.Stage.{goes_on_to}
use Rattle.inode.proofs.Laws.{kind_in, index_in}
use Rattle.inode.proofs.Stages.{spans_on, large_due, large_check_due}
use Rattle.inode.proofs.large_block_check.Goals as goal

pub returns-in_err-inode_check : goal.returns-in_err-inode_check
returns-in_err-inode_check c =
    spans_on _ _ (large_check_due _ _ _ _ _) _ c.inode_check.ensures c.from_residual.result c.in_err-inode_check.was c.from_residual.ensures.1

pub returns-in_err-index_check : goal.returns-in_err-index_check
returns-in_err-index_check c =
    let d = goes_on_to _ _ (large_check_due _ _ _ _ _) _ c.inode_check.ensures c.in_ok-inode_check.was in
    let f = c.from_residual-in_err-index_check in spans_on _ _ d _ c.index_check.ensures f.result c.in_err-index_check.was f.ensures.1

pub read_check-requires : goal.read_check-requires
read_check-requires c =
    let a = c.args in
    let w =
    kind_in _ _ _ _ _ _ (sym (large_due a.handle.now a.inode.now) ∙ (sym c.inode_check.ensures ∙ ap said c.in_ok-inode_check.was)) in
    let k = index_in _ _ _ c.index_check.ensures c.in_ok-index_check.was in record { inode_len = w.0; k_below = omega arith }

pub returns : goal.returns
returns c =
    let d = goes_on_to _ _ (large_check_due _ _ _ _ _) _ c.inode_check.ensures c.in_ok-inode_check.was in
    c.read_check.ensures ∙ sym (goes_on_to _ _ d _ c.index_check.ensures c.in_ok-index_check.was)
