use Rattle.layout.proofs.BigEndian.{from_be-two}
use Rattle.layout.proofs.u16_at.Goals as goal

pub returns : goal.returns
returns c = let e = from_be-two c.args.b.now c.args.at in cc
