-- A direct read has the inode's hash; any other has the indirect block's, once this has passed.
use Rattle.std.proofs.Common.{sym, ◌∙◌, rules, arith}
use Rattle.refusal.specs.Order.{in_order}
use Rattle.refusal.proofs.Stage.{goes_on_to}
use Rattle.itable.specs.LargeInode.{direct_steps}
use Rattle.inode.proofs.Laws.{indirect_in}
use Rattle.inode.proofs.Stages.{spans_on, direct_read, indirect_read}
use Rattle.inode.proofs.large.read_check.Goals as goal

pub returns-then-not-is_empty : goal.returns-then-not-is_empty
unfolding direct_steps in_order
returns-then-not-is_empty c = rw (direct_read _ _ _ _ _ _ c.if-k-lt-COUNT.true) (search rules)

pub returns-then-k-lt-COUNT : goal.returns-then-k-lt-COUNT
unfolding direct_steps in_order
returns-then-k-lt-COUNT c =
    rw c.hash_at.ensures at c.file_block_check.ensures ∙ sym (direct_read _ _ _ _ _ _ c.if-k-lt-COUNT.true ∙ search rules)

pub returns-in_err-indirect_check : goal.returns-in_err-indirect_check
returns-in_err-indirect_check c =
    spans_on _ _ (indirect_read _ _ _ _ _ _ c.if-k-lt-COUNT.false) _ c.indirect_check.ensures c.from_residual.result c.in_err-indirect_check.was
    c.from_residual.ensures.1

pub hash_at-hash-requires : goal.hash_at-hash-requires
hash_at-hash-requires c =
    let l = indirect_in _ _ _ c.indirect_check.ensures c.in_ok-indirect_check.was in omega arith

pub returns : goal.returns
returns c =
    rw c.hash_at-hash.ensures at c.file_block_check-2.ensures ∙
    sym (goes_on_to _ _ (indirect_read _ _ _ _ _ _ c.if-k-lt-COUNT.false) _ c.indirect_check.ensures c.in_ok-indirect_check.was)
