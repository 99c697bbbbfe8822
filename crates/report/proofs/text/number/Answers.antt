-- The digits that the library writes are the fewest that hold the number, so they are its decimal. There is no loop.
use mathlib.Core.List.{append_assoc}
use mathlib.Core.Path.{refl}
use native.Mathlib.Omega.{arith}
use Rattle.report.proofs.Digits.{library_decimal}
use Rattle.report.proofs.text.number.Goals as goal

pub returns-clause-appended : goal.returns-clause-appended
returns-clause-appended c =
    let text = c.format.ensures.text in
    let digits = library_decimal c.args.n (omega arith) in
    rw (c.push_str-2.ensures.bytes, c.push_str.ensures.bytes, text, digits, append_assoc) refl
