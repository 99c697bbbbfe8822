-- Rotated by 14, then 5, then 6, the word is rotated by 25; joined on the way, by 11 and by 6. There is no loop.
use Rattle.std.proofs.Common.{arith}
use Rattle.sha256.proofs.Rotation.{nested_twice}
use Rattle.sha256.proofs.word.big_sigma1.Goals as goal

pub returns : goal.returns
returns c = let e = nested_twice 6 5 14 c.args.x (omega arith) (omega arith) in cc
