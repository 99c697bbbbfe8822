use mathlib.Core.Path.{ap, ◌∙◌}
use native.Mathlib.Omega.{arith}
use lib.ListN.{length, length-take, length-drop}
use Rattle.std.specs.Prelude.{◌<◌}
use Rattle.layout.specs.Bytes.{values}
use Rattle.input.specs.Form.{first_marks, first_records}
use Rattle.input.proofs.Apart.{mark_more, record_more, marks_long, records_long}
use Rattle.input.proofs.take_apart.Goals as goal

pub loop-i-init : goal.loop-i-init
unfolding first_marks first_records values
loop-i-init c = (c.requires.no_marks, c.requires.no_list)

pub push-requires : goal.push-requires
push-requires c =
    let k = ap length c.loop-i.invariant.0 ∙ marks_long c.args.sent.now c.loop-i.i in
    let room : length c.loop-i.marks.items < 16 = omega (arith, k) in (omega arith, room)

pub unwrap-requires : goal.unwrap-requires
unwrap-requires c =
    let k = ap length c.loop-i.invariant.1 ∙ records_long c.args.sent.now c.loop-i.i (omega arith) in
    c.try_extend_from_slice.ensures.variant.1 (simp (length-take, length-drop) (omega (arith, k)))

pub loop-i-preserved : goal.loop-i-preserved
loop-i-preserved c =
    let sent = c.args.sent.now in
    let copied = rw c.unwrap.ensures at c.try_extend_from_slice.ensures.ok in (
      c.push.ensures.items ∙ mark_more sent c.loop-i.marks.items c.loop-i.i c.loop-i.invariant.0,
      copied ∙ record_more sent c.loop-i.list.items c.loop-i.i c.loop-i.invariant.1,
    )
