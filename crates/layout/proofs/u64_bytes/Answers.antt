use native.Mathlib.Omega.{arith}
use Rattle.layout.proofs.BigEndian.{to_be-eight}
use Rattle.layout.proofs.u64_bytes.Goals as goal

pub returns : goal.returns
returns c = let e = to_be-eight c.args.x (omega arith) in cc
