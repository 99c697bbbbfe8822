-- The three stages in the definition's order; an inode and an index that pass bound the place of the hash in the inode.
use Rattle.std.proofs.Common.{sym, ap, ◌∙◌, arith}
use Rattle.refusal.specs.Refusal.{said}
use Rattle.refusal.proofs.Stage.{goes_on_to}
use Rattle.inode.proofs.Laws.{kind_in, index_in}
use Rattle.inode.proofs.Stages.{spans_on, block_due}
use Rattle.inode.proofs.block_check.Goals as goal

pub returns-in_err-inode_check : goal.returns-in_err-inode_check
returns-in_err-inode_check c =
    spans_on _ _ (block_due _ _ _ _) _ c.inode_check.ensures c.from_residual.result c.in_err-inode_check.was c.from_residual.ensures.1

pub returns-in_err-index_check : goal.returns-in_err-index_check
returns-in_err-index_check c =
    let d = goes_on_to _ _ (block_due _ _ _ _) _ c.inode_check.ensures c.in_ok-inode_check.was in
    let f = c.from_residual-in_err-index_check in spans_on _ _ d _ c.index_check.ensures f.result c.in_err-index_check.was f.ensures.1

pub hash_at-requires : goal.hash_at-requires
hash_at-requires c =
    let w = kind_in _ _ _ _ _ _ (sym c.inode_check.ensures ∙ ap said c.in_ok-inode_check.was) in
    let k = index_in _ _ _ c.index_check.ensures c.in_ok-index_check.was in omega arith

pub returns : goal.returns
returns c =
    let d = goes_on_to _ _ (block_due _ _ _ _) _ c.inode_check.ensures c.in_ok-inode_check.was in
    rw c.hash_at.ensures at c.file_block_check.ensures ∙ sym (goes_on_to _ _ d _ c.index_check.ensures c.in_ok-index_check.was)
