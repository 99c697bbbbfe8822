use native.Mathlib.Omega.{arith}
use Rattle.layout.proofs.BigEndian.{to_be-two}
use Rattle.layout.proofs.u16_bytes.Goals as goal

pub returns : goal.returns
returns c = let e = to_be-two c.args.x (omega arith) in cc
