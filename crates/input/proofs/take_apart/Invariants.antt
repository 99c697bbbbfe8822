-- Each turn copies one mark and one record, each after the last.
-- The invariant: the marks and records of the turns before are in place.
use mathlib.Core.Path.{◌≡◌}
use Rattle.input.specs.Form.{first_marks, first_records}
use Rattle.input.proofs.take_apart.Given as goal

abbrev pub invariant-loop-i : goal.invariant-loop-i
invariant-loop-i l = (l.marks.items ≡ first_marks l.sent l.i) × (l.list.items ≡ first_records l.sent l.i)
