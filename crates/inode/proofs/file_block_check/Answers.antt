-- The tests of bytes that a hash names, at the file block's length and place.
use Rattle.std.proofs.Common.{refl, sym}
use Rattle.refusal.proofs.Stage.{goes_on_to}
use Rattle.itable.specs.Inode.{block_steps}
use Rattle.inode.specs.Internal.Named.{named_steps}
use Rattle.inode.proofs.Stages.{spans_on}
use Rattle.inode.proofs.file_block_check.Goals as goal

pub returns-in_err-named : goal.returns-in_err-named
unfolding block_steps named_steps
returns-in_err-named c =
    let e = rw (c.block_length.ensures, c.file_length.ensures) at c.named.ensures in
    spans_on _ _ refl _ e c.from_residual.result c.in_err-named.was c.from_residual.ensures.1

pub returns : goal.returns
unfolding block_steps named_steps
returns c =
    let e = rw (c.block_length.ensures, c.file_length.ensures) at c.named.ensures in
    sym (goes_on_to _ _ refl _ e c.in_ok-named.was)
