-- 6.2.2, step 1, in plain quantifiers.
use Rattle.std.specs.Prelude.{◌≡◌, ℕ, ◌-◌, ◌*◌, ◌<◌, ◌≤◌, List}
use Rattle.layout.specs.Bytes.{four}
use Rattle.sha256.specs.Sha256.{◌⊞◌, σ0, σ1, W}

-- W t is the word t of the block for t below 16, and σ1 (W (t - 2)) + W (t - 7) + σ0 (W (t - 15)) + W (t - 16) from 16 to 63.
abbrev pub Recurrence : Type 0
Recurrence =
    (b : List ℕ) (t : ℕ)
    → (t < 16 → W b t ≡ four b (4 * t))
    × (16 ≤ t → t < 64 → W b t ≡ σ1 (W b (t - 2)) ⊞ W b (t - 7) ⊞ σ0 (W b (t - 15)) ⊞ W b (t - 16))
