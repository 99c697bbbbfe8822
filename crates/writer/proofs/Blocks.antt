-- Blocks and rows over a level: what they depend on, and one block more.
use Prim.Native.Nat.{ℕ, zero, suc, ◌+◌, ◌-◌, ◌*◌, ◌≤◌, ◌<◌}
use mathlib.Core.List.{◌∷◌, ◌++◌, append_assoc, append-nil}
use mathlib.Core.Path.{◌≡◌, refl, ap, ap₂, ◌∙◌}
use native.Mathlib.Omega.{arith}
use native.Mathlib.Nat.{add-zero}
use lib.ListN.{replicate}
use Rattle.itable.specs.Table.{Level, used_in, slots, block, row}

-- The slots are those of the entries alone.
pub slots_cong :
    (L M : Level) (a b u : ℕ) → ((j : ℕ) → j < u → (L.number (a + j) ≡ M.number (b + j)) × (L.value (a + j) ≡ M.value (b + j))) →
    slots L a u ≡ slots M b u
unfolding slots
slots_cong L M a b zero h = refl
slots_cong L M a b (suc u) h =
    let n : L.number a ≡ M.number b = rw (add-zero a, add-zero b) at (h 0 (omega arith)).0 in
    let v : L.value a ≡ M.value b = rw (add-zero a, add-zero b) at (h 0 (omega arith)).1 in
    let r : slots L (suc a) u ≡ slots M (suc b) u =
    slots_cong L M (suc a) (suc b) u
    (λ j l.
    let p : a + suc j ≡ suc a + j = omega arith in
    let q : b + suc j ≡ suc b + j = omega arith in rw (p, q) at (h (suc j) (omega arith))) in
    rw (n, v, r)

pub block_cong :
    (κ : ℕ) (L M : Level) (k m : ℕ) → used_in L.count k ≡ used_in M.count m →
    ((j : ℕ) → j < used_in L.count k → (L.number (16 * k + j) ≡ M.number (16 * m + j)) × (L.value (16 * k + j) ≡ M.value (16 * m + j))) →
    block κ L k ≡ block κ M m
unfolding block
block_cong κ L M k m e h =
    ap₂ (λ u s. κ ∷ u ∷ (s ++ replicate (640 - 40 * u) 0)) e
    (slots_cong L M (16 * k) (16 * m) (used_in L.count k) h ∙ ap (slots M (16 * m)) e)

pub row_cong :
    (κ : ℕ) (L M : Level) (a m : ℕ) → ((k : ℕ) → a ≤ k → k < a + m → block κ L k ≡ block κ M k) → row κ L a m ≡ row κ M a m
unfolding row
row_cong κ L M a zero h = refl
row_cong κ L M a (suc m) h =
    ap₂ ◌++◌ (h a (omega arith) (omega arith)) (row_cong κ L M (suc a) m (λ k l r. h k (omega arith) (omega arith)))

pub row_last : (κ : ℕ) (L : Level) (a m : ℕ) → row κ L a (m + 1) ≡ row κ L a m ++ block κ L (a + m)
unfolding row
row_last κ L a zero = rw (add-zero a, append-nil)
row_last κ L a (suc m) =
    let e : suc m + 1 ≡ suc (m + 1) = omega arith in
    let f : suc a + m ≡ a + suc m = omega arith in
    rw (e, row, row_last κ L (suc a) m, f, append_assoc (block κ L a))
