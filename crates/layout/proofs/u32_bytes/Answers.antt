use native.Mathlib.Omega.{arith}
use Rattle.layout.proofs.BigEndian.{to_be-four}
use Rattle.layout.proofs.u32_bytes.Goals as goal

pub returns : goal.returns
returns c = let e = to_be-four c.args.x (omega arith) in cc
