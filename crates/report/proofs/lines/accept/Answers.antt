-- The word, the counts and the line's end are written one after the other. There is no loop.
use mathlib.Core.List.{append_assoc}
use Rattle.report.specs.Printed.{accept_line}
use Rattle.report.proofs.lines.accept.Goals as goal

pub returns-clause-appended : goal.returns-clause-appended
unfolding accept_line
returns-clause-appended c =
    rw (c.push_str-2.ensures.bytes, c.counts.ensures.appended, c.push_str.ensures.bytes) (simp append_assoc)
