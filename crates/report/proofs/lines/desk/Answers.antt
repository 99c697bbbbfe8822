-- Each part is written after the one before it, so the line is their concatenation. There is no loop.
use mathlib.Core.List.{append_assoc}
use Rattle.report.specs.Printed.{desk_line}
use Rattle.report.proofs.lines.desk.Goals as goal

pub returns-clause-appended : goal.returns-clause-appended
unfolding desk_line
returns-clause-appended c =
    rw (
      c.push_str-3.ensures.bytes,
      c.number-2.ensures.appended,
      c.push_str-2.ensures.bytes,
      c.number.ensures.appended,
      c.push_str.ensures.bytes,
    ) (simp append_assoc)
