-- A copy into the part from the owner's place on puts the record there and keeps what is before and after it.
-- There is no loop.
use Prim.Native.Nat.{ℕ, ◌-◌, ◌*◌}
use mathlib.Core.List.{List, ◌++◌}
use mathlib.Core.Path.{◌≡◌, ap, ◌∙◌}
use native.Mathlib.Omega.{arith}
use lib.ListN.{length, take, drop}
use lib.Seq.{take_all}
use Rattle.layout.proofs.Copied.{copied}
use Rattle.server.proofs.replace.Goals as goal

pub returns : goal.returns
returns c =
    let x = c.args.x.now in
    let r = c.args.records.now in
    let at = 98 * c.args.owner in
    let whole : take 98 x ≡ x = take_all 98 x (omega (arith, c.requires.1)) in
    let room = length r - at in
    let f =
    (c.copy.ensures.copied (omega arith)) ∙ ap (λ (s : List ℕ). take (length s) s ++ drop (length s) (take room (drop at r))) whole in
    let e = copied x r _ at room (omega (arith, c.requires)) (omega (arith, c.requires)) f in
    rw c.requires.1 at e
