-- Each part is written after the one before it, and the numbers are those that the refusal's row tells. There is no loop.
use mathlib.Core.List.{append_assoc}
use Rattle.report.specs.Printed.{refuse_line}
use Rattle.report.proofs.Output.{same_row}
use Rattle.report.proofs.lines.refuse.Goals as goal

pub returns-clause-by_index : goal.returns-clause-by_index
unfolding refuse_line
returns-clause-by_index c =
    λ N.
    rw (
      same_row c.args.refusal _ _ _ c.from-told.ensures,
      c.push_str-2.ensures.bytes,
      c.number-3.ensures.appended,
      c.number-2.ensures.appended,
      c.number.ensures.appended,
      c.push_str.ensures.bytes,
    ) (simp append_assoc)
