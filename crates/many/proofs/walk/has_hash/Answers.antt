-- A block that is byte for byte a known one has its hash, and any other is hashed. There is no loop.
use Prim.Native.Nat.{◌+◌, ◌-◌, ◌*◌}
use mathlib.Core.Path.{◌≡◌, sym, ◌∙◌}
use native.Mathlib.Omega.{arith}
use Rattle.many.proofs.Hashes.{known_hash}
use Rattle.many.proofs.walk.has_hash.Goals as goal

pub returns-then-equal : goal.returns-then-equal
returns-then-equal c =
    let i = c.args.i in
    let k = c.in-Some.k.at in
    let e : 642 * i + 642 - 642 * i ≡ 642 = omega arith in
    let f : 642 * k + 642 - 642 * k ≡ 642 = omega arith in
    let s = rw (e, f) at (sym c.equal.ensures ∙ c.if-equal.true) in
    let w = rw c.in-Some.is at c.requires.1 in
    c.equal-then-equal.ensures ∙ known_hash c.args.paths.now i c.requires.0 c.in-Some.k w s _
