-- The tests come first, and a refusal has written nothing. The rows then fill parts of the buffer one behind the other, each over the row below.
use Rattle.std.proofs.Common.{◌≡◌, ◌∙◌, ◌*◌, ap, sym, drop, arith}
use Rattle.layout.specs.Bytes.{parts}
use Rattle.itable.specs.Table.{files, row}
use Rattle.writer.proofs.Admitted.{admitted_by, writes_nothing, rows_fit, writes_all}
use Rattle.writer.proofs.Rows.{files_sized}
use Rattle.writer.proofs.Whole.{whole_is}
use Rattle.writer.proofs.write.Goals as goal

pub returns-in_err-admit : goal.returns-in_err-admit
returns-in_err-admit c = writes_nothing _ _ _ _ c.admit.ensures c.from_residual.result c.in_err-admit.was c.from_residual.ensures.1

pub overflow_mul-l : goal.overflow_mul-l
overflow_mul-l c =
    let t = rows_fit _ _ _ _ c.admit.ensures c.in_ok-admit.was _ _ _ c.wide-l.ensures c.over-f.ensures c.over-v.ensures in omega arith

pub split_at_mut-leaves-requires : goal.split_at_mut-leaves-requires
split_at_mut-leaves-requires c =
    let t = rows_fit _ _ _ _ c.admit.ensures c.in_ok-admit.was _ _ _ c.wide-l.ensures c.over-f.ensures c.over-v.ensures in omega arith

pub split_at_mut-fours-requires : goal.split_at_mut-fours-requires
split_at_mut-fours-requires c =
    let t = rows_fit _ _ _ _ c.admit.ensures c.in_ok-admit.was _ _ _ c.wide-l.ensures c.over-f.ensures c.over-v.ensures in omega arith

pub split_at_mut-fives-requires : goal.split_at_mut-fives-requires
split_at_mut-fives-requires c =
    let t = rows_fit _ _ _ _ c.admit.ensures c.in_ok-admit.was _ _ _ c.wide-l.ensures c.over-f.ensures c.over-v.ensures in omega arith

pub leaves-requires-clause-handles_len : goal.leaves-requires-clause-handles_len
leaves-requires-clause-handles_len c = (admitted_by _ _ _ _ c.admit.ensures c.in_ok-admit.was).handled

pub returns : goal.returns
unfolding files
returns c =
    let a = c.args in
    let handled = (admitted_by _ _ _ _ c.admit.ensures c.in_ok-admit.was).handled in
    let T = files a.numbers.now a.handles.now in
    let f = c.over-f.result in
    let v = c.over-v.result in
    let m = parts 642 c.split_at_mut-fours.result.0.now in
    let n = parts 642 c.split_at_mut-fives.result.0.now in
    let em : m ≡ f = omega arith in
    let en : n ≡ v = omega arith in
    writes_all _ _ _ _ c.admit.ensures c.in_ok-admit.was _ _ _ c.wide-l.ensures c.over-f.ensures c.over-v.ensures _
    (whole_is T (files_sized a.numbers.now a.handles.now handled) a.out.now _ f v c.wide-l.ensures c.over-f.ensures c.over-v.ensures
    _ _ _ _ m n (c.leaves.ensures ∙ ap (row 3 T 0) (sym c.wide-l.ensures)) em c.inner.ensures en c.inner-2.ensures
    (c.split_at_mut-fives.ensures.back ∙
    ap (drop (642 * v)) (c.split_at_mut-fours.ensures.back ∙ ap (drop (642 * f)) c.split_at_mut-leaves.ensures.back)))
