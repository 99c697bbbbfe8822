-- A child's first number is that of the slot that led to it, which is at most the i-number.
use Prim.Native.Nat.{◌-◌}
use mathlib.Core.Path.{◌≡◌}
use native.Mathlib.Omega.{arith}
use Rattle.itable.specs.Block.{kind, used}
use Rattle.itable.specs.LookupMeaning.{NoneOnlyAtRoot}

pub none_only_at_root : NoneOnlyAtRoot
none_only_at_root k b c i j l four w none =
    let due : kind b - 1 ≡ 0 → ⊥ = λ z. omega arith in
    let some : used c ≡ 0 → ⊥ = λ z. due (w.empty z).0 in
    omega (arith, w.first_number due, l.at_most, none 0 (omega arith))
