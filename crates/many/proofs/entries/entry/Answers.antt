-- The entry is what the block says: zeros in an inner block or where no slot of the leaf has the number, else 1 and the slot's value.
-- There is no loop.
use native.Mathlib.Omega.{arith}
use mathlib.Core.Path.{sym, ◌∙◌}
use Rattle.many.proofs.Writing.{no_leaf, no_slot, in_slot}
use Rattle.many.proofs.entries.entry.Goals as goal

pub returns-then-kind-ne-LEAF : goal.returns-then-kind-ne-LEAF
returns-then-kind-ne-LEAF c =
    let a = c.args in
    no_leaf a.b.now a.number (λ e. c.if-kind-ne-LEAF.true (c.kind.ensures ∙ e))

pub returns-in_default : goal.returns-in_default
returns-in_default c =
    let a = c.args in
    no_slot a.b.now a.number (sym c.kind.ensures ∙ c.if-kind-ne-LEAF.false) _ c.slot_of.ensures c.in_default.is

pub returns : goal.returns
returns c =
    let a = c.args in
    in_slot a.b.now a.number (sym c.kind.ensures ∙ c.if-kind-ne-LEAF.false) _ c.slot_of.ensures _ _
    c.in-Some.is c.value-handle.ensures (c.copy.ensures.copied (omega arith))
