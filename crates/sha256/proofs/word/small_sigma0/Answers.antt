-- Rotated by 11, then 7, the word is rotated by 18; joined on the way, by 7. There is no loop.
use Rattle.std.proofs.Common.{arith}
use Rattle.sha256.proofs.Rotation.{nested}
use Rattle.sha256.proofs.word.small_sigma0.Goals as goal

pub returns : goal.returns
returns c = let e = nested 7 11 c.args.x (omega arith) (omega arith) in cc
