-- The count's bytes, copied over all four.
use native.Mathlib.Omega.{arith}
use Rattle.create.proofs.Written.{four_copied}
use Rattle.create.proofs.record.write_count.Goals as goal

pub returns : goal.returns
returns c =
    four_copied c.args.x c.args.out.now _ _ c.requires c.u32_bytes-b.ensures (c.copy.ensures.copied (omega arith))
