use Rattle.std.proofs.Common.{◌≡◌, ◌∙◌, ◌*◌, length, refl, arith}
use Rattle.itable.specs.Table.{files, row, wide}
use Rattle.writer.proofs.Rows.{files_sized, row_next, leaf_is, lent_length, filled_up}
use Rattle.writer.proofs.row.leaves.Goals as goal

pub loop-k-init : goal.loop-k-init
unfolding row
loop-k-init c = refl

pub loop-k-preserved : goal.loop-k-preserved
unfolding files
loop-k-preserved c =
    let v = c.used_in-u in
    let l = c.loop-k in
    let a = c.args in
    let h = c.requires.handles_len in
    row_next 3 (files a.numbers.now a.handles.now) (files_sized a.numbers.now a.handles.now h) a.out.now _ _ l.k (omega arith) (omega arith)
    l.invariant
    (c.fill.ensures.out_after ∙
    leaf_is a.numbers.now a.handles.now _ l.k v.result h (omega arith) v.ensures (lent_length l.out _ (omega arith)))

pub returns : goal.returns
returns c =
    let w = wide (length c.args.numbers.now) in
    let e : c.loop-k.k ≡ w = omega arith in
    rw e at c.loop-k.invariant ∙ filled_up _ c.args.out.now (642 * w) (omega arith)
