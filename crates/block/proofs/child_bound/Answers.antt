-- The next slot is used, or the block's own bound is handed down.
use native.Mathlib.Omega.{arith}
use Rattle.block.proofs.Laws.{handed_down, next_number}
use Rattle.block.proofs.child_bound.Goals as goal

pub returns-then-saturating_sub-j : goal.returns-then-saturating_sub-j
returns-then-saturating_sub-j c = handed_down _ _ _ _ c.used.ensures (omega arith)

pub returns : goal.returns
returns c = next_number _ _ _ _ c.used.ensures (omega arith) _ c.number.ensures
