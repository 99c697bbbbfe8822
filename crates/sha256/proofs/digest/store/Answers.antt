-- The bytes of the word, copied to their place in the buffer, which has room for them by what the caller shows. There is no loop.
use native.Mathlib.Omega.{arith}
use Rattle.sha256.proofs.Stores.{stored}
use Rattle.sha256.proofs.digest.store.Goals as goal

pub returns : goal.returns
returns c =
    stored c.args.out.now c.args.i c.args.x c.requires c.u32_bytes-b.ensures (c.copy.ensures.copied (omega arith))
