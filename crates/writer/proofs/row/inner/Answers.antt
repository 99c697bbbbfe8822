use Rattle.std.proofs.Common.{◌≡◌, ◌∙◌, length, sym, arith}
use Rattle.std.proofs.lemmas.Bool.{eqb-true}
use Rattle.std.proofs.lemmas.List.{nil_from_length}
use Rattle.layout.specs.Bytes.{parts}
use Rattle.itable.specs.Table.{row}
use Rattle.writer.proofs.row.inner.Goals as goal

pub returns-then-is_empty : goal.returns-then-is_empty
unfolding row
returns-then-is_empty c =
    let a = c.args in
    let l : length a.out.now ≡ 0 = eqb-true _ 0 (sym c.if-is_empty.ensures) in
    let none : parts 642 a.out.now ≡ 0 = omega (arith, l, c.requires.whole) in
    nil_from_length a.out.now l ∙ rw none
