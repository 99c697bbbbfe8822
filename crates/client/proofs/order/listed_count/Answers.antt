-- Where the list has no record of the user the entry is no bytes, and counts none.
use mathlib.Core.List.{[]}
use mathlib.Core.Path.{sym}
use native.Mathlib.Omega.{arith}
use Rattle.layout.proofs.Bytes.{four_past}
use Rattle.client.proofs.order.listed_count.Goals as goal

pub returns-in-None : goal.returns-in-None
returns-in-None c = rw c.in-None.ensures (sym (four_past [] _ (omega arith)))
