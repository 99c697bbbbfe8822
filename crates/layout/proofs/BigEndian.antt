-- The library's big-endian numbers are the layouts'.
use Rattle.std.proofs.Common.{◌≡◌, ℕ, ◌+◌, ◌*◌, ◌/◌, ◌%◌, ◌^◌, ◌<◌, List, [], ◌∷◌, get_or, arith, add-zero}
use Rattle.std.specs.Int.{w16, w32, w64, from_be_bytes, to_be_bytes}
use Rattle.layout.specs.Bytes.{two, four, eight, bytes2, bytes4, bytes8, values, bytes_at}

pub from_be-two : (b : List ℕ) (at : ℕ) → from_be_bytes w16 (bytes_at b at 2) ≡ two b at
unfolding two values
from_be-two b at = simp add-zero (omega arith)

pub from_be-four : (b : List ℕ) (at : ℕ) → from_be_bytes w32 (bytes_at b at 4) ≡ four b at
unfolding four values
from_be-four b at = simp add-zero (omega arith)

joined : (a b c d e f g h : ℕ) → from_be_bytes w64 (a ∷ b ∷ c ∷ d ∷ e ∷ f ∷ g ∷ h ∷ []) ≡ from_be_bytes w32 (a ∷ b ∷ c ∷ d ∷ []) * 2 ^ 32 + from_be_bytes w32 (e ∷ f ∷ g ∷ h ∷ [])
joined a b c d e f g h = omega arith

pub from_be-eight : (b : List ℕ) (at : ℕ) → from_be_bytes w64 (bytes_at b at 8) ≡ eight b at
unfolding eight four values
from_be-eight b at =
    let p : at + 4 + 1 ≡ at + 5 = omega arith in
    let q : at + 4 + 2 ≡ at + 6 = omega arith in
    let r : at + 4 + 3 ≡ at + 7 = omega arith in
    simp (add-zero, p, q, r) (joined (get_or b at 0) _ _ _ _ _ _ _)

pub to_be-two : (x : ℕ) → x < 2 ^ 16 → to_be_bytes w16 x ≡ bytes2 x
unfolding bytes2
to_be-two x h = let high : x / 2 ^ 8 % 256 ≡ x / 2 ^ 8 = omega arith in cc

pub to_be-four : (x : ℕ) → x < 2 ^ 32 → to_be_bytes w32 x ≡ bytes4 x
unfolding bytes4
to_be-four x h = let high : x / 2 ^ 24 % 256 ≡ x / 2 ^ 24 = omega arith in cc

pub to_be-eight : (x : ℕ) → x < 2 ^ 64 → to_be_bytes w64 x ≡ bytes8 x
unfolding bytes8 bytes4
to_be-eight x h =
    let a : x / 2 ^ 56 % 256 ≡ x / 2 ^ 32 / 2 ^ 24 = omega arith in
    let b : x / 2 ^ 48 % 256 ≡ x / 2 ^ 32 / 2 ^ 16 % 256 = omega arith in
    let c : x / 2 ^ 40 % 256 ≡ x / 2 ^ 32 / 2 ^ 8 % 256 = omega arith in
    let d : x / 2 ^ 24 % 256 ≡ x % 2 ^ 32 / 2 ^ 24 = omega arith in
    let e : x / 2 ^ 16 % 256 ≡ x % 2 ^ 32 / 2 ^ 16 % 256 = omega arith in
    let f : x / 2 ^ 8 % 256 ≡ x % 2 ^ 32 / 2 ^ 8 % 256 = omega arith in
    let g : x % 256 ≡ x % 2 ^ 32 % 256 = omega arith in
    cc
