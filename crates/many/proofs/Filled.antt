-- Bytes counted down by the blocks of each count: what is left and what was taken are all the bytes.
use Prim.Native.Nat.{ℕ, ◌+◌, ◌-◌, ◌*◌, ◌≤◌, ◌<◌}
use mathlib.Core.Bool.{false}
use mathlib.Core.List.{List}
use mathlib.Core.Path.{◌≡◌, sym, ◌∙◌}
use native.Mathlib.Decide.{dec_le}
use native.Mathlib.Omega.{arith}
use lib.Dec.{eqb}
use lib.ListN.{length, get_or, take}
use borrow.Author.Tests.{eq-eqb, ne_eqb}
use Rattle.itable.specs.Block.{size}
use Rattle.itable.specs.Many.{total}
use Rattle.itable.proofs.Many.{total_next, total_front, total_all}

module _ (counts : List ℕ) (bytes rest q : ℕ) (e : rest + size * total (take q counts) ≡ bytes) where
  pub taken_next :
      (n : ℕ) → n ≡ size * get_or counts q 0 → n ≤ rest → rest - n + size * total (take (q + 1) counts) ≡ bytes
  taken_next n h l = omega (arith, total_next counts q)

  pub too_few : (n : ℕ) → n ≡ size * get_or counts q 0 → rest < n → false ≡ eqb (size * total counts) bytes
  too_few n h l = sym (ne_eqb (size * total counts) bytes (λ z. omega (arith, total_front counts q)))

  pub all_taken : q ≡ length counts → eqb rest 0 ≡ eqb (size * total counts) bytes
  all_taken h =
      let t : total (take q counts) ≡ total counts = rw h (total_all counts) in
      elim (dec_le 1 rest) [
        | yes l ↦ ne_eqb rest 0 (λ z. omega arith) ∙ sym (ne_eqb (size * total counts) bytes (λ z. omega arith))
        | no l ↦ eq-eqb rest 0 (omega arith) ∙ sym (eq-eqb (size * total counts) bytes (omega arith))
      ]
