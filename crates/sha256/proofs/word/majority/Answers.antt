-- The code's Maj is FIPS's at each digit: y, unless both others differ from it. There is no loop.
use Rattle.sha256.proofs.Bits.{majority_short}
use Rattle.sha256.proofs.word.majority.Goals as goal

pub returns : goal.returns
returns c = majority_short c.args.x c.args.y c.args.z
