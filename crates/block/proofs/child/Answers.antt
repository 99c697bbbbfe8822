-- The four parts of the link, each as it is read.
use Rattle.block.proofs.child.Goals as goal

pub returns : goal.returns
returns c = cc
