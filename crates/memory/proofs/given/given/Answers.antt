-- The two tests of the file, one after the other.
use mathlib.Core.Path.{sym, ◌∙◌}
use native.Mathlib.Omega.{arith}
use borrow.Author.Tests.{eq-eqb, ne_eqb}
use lib.ListN.{length}
use Rattle.refusal.specs.Order.{in_order}
use Rattle.protocol.specs.MemoryFile.{given_steps}
use Rattle.memory.proofs.given.given.Goals as goal

pub returns-then-file-ne-FILE : goal.returns-then-file-ne-FILE
unfolding given_steps in_order
returns-then-file-ne-FILE c = let file = c.args.file.now in rw (ne_eqb (length file) 100 (λ e. omega arith))

pub returns-then-not-formed : goal.returns-then-not-formed
unfolding given_steps in_order
returns-then-not-formed c =
    let file = c.args.file.now in
    rw (eq-eqb (length file) 100 (omega arith), sym c.formed.ensures ∙ c.if-not-formed.true)

pub returns : goal.returns
unfolding given_steps in_order
returns c =
    let file = c.args.file.now in
    rw (eq-eqb (length file) 100 (omega arith), sym c.formed.ensures ∙ c.if-not-formed.false)
