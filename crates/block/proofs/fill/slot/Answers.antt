-- Both copies, end to end, leave nothing of the 40 bytes.
use native.Mathlib.Omega.{arith}
use Rattle.block.proofs.Filling.{slot_is}
use Rattle.block.proofs.fill.slot.Goals as goal

pub returns : goal.returns
returns c =
    slot_is _ _ c.args.out.now _ c.requires.0 c.requires.1 c.u64_bytes-b.ensures _ _ (c.copy.ensures.copied (omega arith))
    (c.copy-2.ensures.copied (omega arith))
