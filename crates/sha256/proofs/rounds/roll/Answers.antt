-- The four words that step 1 adds up are read at their places, and the sum is stored at its own. There is no loop.
use Rattle.sha256.specs.WordsTaken.{rolled}
use Rattle.sha256.proofs.rounds.roll.Goals as goal

pub returns : goal.returns
unfolding rolled
returns c = cc
