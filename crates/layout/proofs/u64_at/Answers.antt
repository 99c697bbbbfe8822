use Rattle.layout.proofs.BigEndian.{from_be-eight}
use Rattle.layout.proofs.u64_at.Goals as goal

pub returns : goal.returns
returns c = let e = from_be-eight c.args.b.now c.args.at in cc
