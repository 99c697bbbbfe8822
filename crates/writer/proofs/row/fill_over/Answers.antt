use Rattle.std.proofs.Common.{◌≡◌, ◌∙◌, ◌*◌, refl, arith}
use Rattle.layout.specs.Bytes.{parts}
use Rattle.itable.specs.Table.{row}
use Rattle.writer.specs.Internal.Children.{children}
use Rattle.writer.proofs.Rows.{children_sized, row_next, inner_is, lent_length, filled_up}
use Rattle.writer.proofs.row.fill_over.Goals as goal

pub loop-k-init : goal.loop-k-init
unfolding row
loop-k-init c = (refl, refl, refl)

pub loop-k-preserved : goal.loop-k-preserved
unfolding children
loop-k-preserved c =
    let b = c.read_back in
    let v = c.used_in-u in
    let l = c.loop-k in
    let a = c.args in
    let n = parts 642 a.below.now in
    let numbers-long = b.auto.numbers ∙ l.invariant.0 in
    let hashes-long = b.auto.hashes ∙ l.invariant.1 in (
      numbers-long,
      hashes-long,
      row_next a.kind (children a.below.now 0 n) (children_sized a.below.now n) a.out.now _ _ l.k (omega arith) (omega arith) l.invariant.2
          (c.fill.ensures.out_after ∙
          inner_is a.kind n l.k v.result a.below.now _ _ _ (omega arith) (omega arith) v.ensures numbers-long hashes-long
          (lent_length l.out _ (omega arith)) b.ensures),
    )

pub returns : goal.returns
returns c =
    let e : c.loop-k.k ≡ parts 642 c.args.out.now = omega arith in
    rw e at c.loop-k.invariant.2 ∙ filled_up _ c.args.out.now (642 * parts 642 c.args.out.now) (omega arith)
