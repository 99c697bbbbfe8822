-- Rotated by 2, then 17, the word is rotated by 19; joined on the way, by 17. There is no loop.
use Rattle.std.proofs.Common.{arith}
use Rattle.sha256.proofs.Rotation.{nested}
use Rattle.sha256.proofs.word.small_sigma1.Goals as goal

pub returns : goal.returns
returns c = let e = nested 17 2 c.args.x (omega arith) (omega arith) in cc
