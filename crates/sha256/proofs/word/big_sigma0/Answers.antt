-- Rotated by 11 and by 20, both then by 2, the word is rotated by 13 and by 22; joined before, by 2. There is no loop.
use Rattle.std.proofs.Common.{arith}
use Rattle.sha256.proofs.Rotation.{nested_both}
use Rattle.sha256.proofs.word.big_sigma0.Goals as goal

pub returns : goal.returns
returns c = let e = nested_both 2 11 20 c.args.x (omega arith) (omega arith) (omega arith) in cc
