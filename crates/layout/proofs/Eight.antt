-- Laws of big-endian numbers of eight bytes: what was written is read back, and reading at a place is reading at the front of what follows it.
use Prim.Native.Nat.{ℕ, ◌+◌, ◌*◌, ◌/◌, ◌%◌, ◌^◌}
use mathlib.Core.List.{List, ◌++◌}
use mathlib.Core.Path.{◌≡◌, refl, ap₂, ◌∙◌}
use native.Mathlib.Omega.{arith}
use lib.ListN.{length, get_or, drop}
use lib.Seq.{get_or-drop}
use Rattle.layout.specs.Bytes.{four, eight, bytes4, bytes8}
use Rattle.layout.proofs.Bytes.{four_bytes4}

halves : (x : ℕ) → x / 2 ^ 32 * 2 ^ 32 + x % 2 ^ 32 ≡ x
halves x = omega arith

pub eight_bytes8 : (x : ℕ) (r : List ℕ) → eight (bytes8 x ++ r) 0 ≡ x
unfolding eight four bytes8 bytes4
eight_bytes8 x r =
    ap₂ (λ (h l : ℕ). h * 2 ^ 32 + l) (four_bytes4 (x / 2 ^ 32) r) (four_bytes4 (x % 2 ^ 32) r) ∙ halves x

pub length_bytes8 : (x : ℕ) → length (bytes8 x) ≡ 8
unfolding bytes8 bytes4
length_bytes8 x = refl

get_or_behind : (b : List ℕ) (at k n : ℕ) → n ≡ at + k → get_or b n 0 ≡ get_or (drop at b) k 0
get_or_behind b at k n e = rw (e, get_or-drop)

pub eight_drop : (b : List ℕ) (at : ℕ) → eight b at ≡ eight (drop at b) 0
unfolding eight four
eight_drop b at =
    rw (
      get_or_behind b at 0 at (omega arith),
      get_or_behind b at 1 (at + 1) (omega arith),
      get_or_behind b at 2 (at + 2) (omega arith),
      get_or_behind b at 3 (at + 3) (omega arith),
      get_or_behind b at 4 (at + 4) (omega arith),
      get_or_behind b at 5 (at + 4 + 1) (omega arith),
      get_or_behind b at 6 (at + 4 + 2) (omega arith),
      get_or_behind b at 7 (at + 4 + 3) (omega arith),
    )
