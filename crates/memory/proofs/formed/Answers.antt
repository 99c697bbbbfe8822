-- Each test is the definition's, in its order.
use native.Mathlib.Omega.{arith}
use Rattle.memory.proofs.Form.{other_kind, of_none, no_state, of_some}
use Rattle.memory.proofs.formed.Goals as goal

pub returns-then-byte_at-ne7 : goal.returns-then-byte_at-ne7
returns-then-byte_at-ne7 c = let k = c.byte_at in other_kind _ _ _ k.result k.ensures (λ e. omega arith)

pub returns-in-2 : goal.returns-in-2
returns-in-2 c =
    let state = c.byte_at-2 in
    let kind = c.byte_at in
    of_none _ _ _ kind.result kind.ensures (omega arith) state.result state.ensures c.in-2.is _ c.zero_between.ensures

pub returns-in-0 : goal.returns-in-0
returns-in-0 c =
    let state = c.byte_at-2 in
    let kind = c.byte_at in
    of_some _ _ _ kind.result kind.ensures (omega arith) state.result state.ensures (λ e. omega arith) (omega arith) _
    (rw c.behind.ensures at c.own.ensures)

pub returns-in_default : goal.returns-in_default
returns-in_default c =
    let state = c.byte_at-2 in
    let kind = c.byte_at in
    no_state _ _ _ kind.result kind.ensures (omega arith) state.result state.ensures (λ e. omega arith) (omega arith)
