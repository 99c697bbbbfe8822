-- Zeros behind none, or the structure laid over them.
use native.Mathlib.Omega.{arith}
use Rattle.memory.proofs.Laid.{none_laid, one_laid}
use mathlib.Core.Path.{◌∙◌}
use Rattle.memory.proofs.file_of.Goals as goal

pub returns-in-0-clause-laid : goal.returns-in-0-clause-laid
returns-in-0-clause-laid c = λ w. none_laid c.args.old.now (λ e. omega arith) w

pub returns-in-98-clause-laid : goal.returns-in-98-clause-laid
returns-in-98-clause-laid c = λ w. c.lay.ensures ∙ one_laid c.args.old.now c.in-98.is
