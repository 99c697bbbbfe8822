-- Sums of words in another order: both sides are the same sum of numbers, modulo 2 ^ 32.
use Rattle.std.proofs.Common.{◌≡◌, ℕ, ◌+◌, ◌%◌, ◌^◌, ap, arith}
use native.Mathlib.Nat.{mod-add-mod, add-mod-mod}
use Rattle.sha256.specs.Sha256.{◌⊞◌}

-- The order in which the code adds up T1.
pub reordered : (h s c k w : ℕ) → h ⊞ s ⊞ c ⊞ k ⊞ w ≡ h ⊞ (k ⊞ w) ⊞ c ⊞ s
reordered h s c k w =
    let e : h + s + c + k + w ≡ h + (k + w) + c + s = omega arith in simp (mod-add-mod, add-mod-mod) (ap (λ (x : ℕ). x % 2 ^ 32) e)
