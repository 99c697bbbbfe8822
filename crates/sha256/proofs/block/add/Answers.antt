-- Each sum is that of FIPS's step 4, word by word. There is no loop.
use Rattle.sha256.specs.Sha256.{added}
use Rattle.sha256.proofs.block.add.Goals as goal

pub returns : goal.returns
unfolding added
returns c = cc
