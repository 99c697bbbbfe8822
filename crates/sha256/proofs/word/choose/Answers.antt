-- The code's Ch is FIPS's at each digit: where x has 1 both take y, elsewhere z. There is no loop.
use Rattle.std.proofs.Common.{arith}
use Rattle.sha256.proofs.Bits.{choose_short}
use Rattle.sha256.proofs.word.choose.Goals as goal

pub returns : goal.returns
returns c = choose_short c.args.x c.args.y c.args.z (omega arith) (omega arith)
