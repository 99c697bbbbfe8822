use Rattle.layout.proofs.BigEndian.{from_be-four}
use Rattle.layout.proofs.u32_at.Goals as goal

pub returns : goal.returns
returns c = let e = from_be-four c.args.b.now c.args.at in cc
