-- A copy into the part from a place on puts the bytes there, and keeps what is before and after them.
use Prim.Native.Nat.{◌-◌}
use native.Mathlib.Omega.{arith}
use lib.ListN.{length}
use Rattle.layout.specs.Bytes.{put_at}
use Rattle.layout.proofs.Copied.{copied}
use Rattle.blockstore.proofs.place.put.Goals as goal

pub returns : goal.returns
unfolding put_at
returns c =
    let x = c.args.store.now in
    let at = c.args.at in copied c.args.new.now x _ at (length x - at) c.requires (omega arith) (c.copy.ensures.copied (omega arith))
