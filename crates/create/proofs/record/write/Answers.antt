-- The parts of the record are written one after the other, and each lies after the last.
use Prim.Native.Nat.{ℕ}
use mathlib.Core.List.{List, ◌∷◌, ◌++◌}
use mathlib.Core.Path.{ap, ◌∙◌}
use native.Mathlib.Omega.{arith}
use Rattle.protocol.specs.Version.{structure}
use Rattle.create.proofs.Written.{handled_length, whole}
use Rattle.create.proofs.record.write.Goals as goal

pub shape_of-out : goal.shape_of-out
shape_of-out c =
    let a = c.args in
    omega (arith, handled_length _ _ a.handle.now _ a.out.now (omega arith) (omega arith) (c.copy.ensures.copied (omega arith)))

pub returns : goal.returns
unfolding structure
returns c =
    let a = c.args in
    whole 1 a.user a.handle.now _ a.out.now (omega arith) (omega arith) (c.copy.ensures.copied (omega arith)) _ ∙
    ap (λ (l : List ℕ). 1 ∷ a.user ∷ (a.handle.now ++ l)) c.write_counts.ensures
