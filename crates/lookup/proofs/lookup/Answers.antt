-- The tests of lengths in their order, and then the walk along the blocks.
use native.Mathlib.Omega.{arith}
use Rattle.lookup.proofs.Lengths.{other_handle, not_whole, no_block, many_blocks, some_blocks}
use Rattle.lookup.proofs.lookup.Goals.{
  then-handle-ne32-via-then-handle-ne32,
  then-handle-ne32-via-else-handle-ne32+then-n-path,
  then-handle-ne32-via-else-handle-ne32+else-n-path+then-n-lt1,
  then-handle-ne32-via-else-handle-ne32+else-n-path+else-n-lt1+then-n-gt3,
}
use Rattle.lookup.proofs.lookup.Goals as goal

pub returns-then-handle-ne32 : goal.returns-then-handle-ne32
returns-then-handle-ne32 c =
    elim c.then-handle-ne32.branch [
      | then-handle-ne32-via-then-handle-ne32 w ↦ other_handle _ _ _ w.if-handle-ne32.true
      | then-handle-ne32-via-else-handle-ne32+then-n-path w ↦ not_whole _ _ _ w.if-handle-ne32.false w.if-n-path.true
      | then-handle-ne32-via-else-handle-ne32+else-n-path+then-n-lt1 w ↦ no_block _ _ _ w.if-handle-ne32.false w.if-n-path.false w.if-n-lt1.true
      | then-handle-ne32-via-else-handle-ne32+else-n-path+else-n-lt1+then-n-gt3 w ↦
          many_blocks _ _ _ w.if-handle-ne32.false w.if-n-path.false w.if-n-lt1.false (omega arith)
    ]

pub returns : goal.returns
returns c =
    some_blocks _ _ _ c.if-handle-ne32.false c.if-n-path.false c.if-n-lt1.false (omega arith) c.bytes32.ensures c.root.ensures
    c.walk.ensures
