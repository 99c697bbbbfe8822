-- Laws of bytes that are put over others: the length stays, each byte is a new one or the old one, and so is each number and each part.
use Prim.Native.Nat.{ℕ, suc, ◌+◌, ◌-◌, ◌*◌, ◌/◌, ◌%◌, ◌≤◌, ◌<◌}
use mathlib.Core.List.{List, ◌++◌, append_assoc}
use mathlib.Core.Logic.{◌⊎◌, ⊎_elim}
use mathlib.Core.Path.{◌≡◌, ap, ◌∙◌}
use native.Mathlib.Decide.{dec_lt}
use native.Mathlib.Nat.{mul-suc, mul-add}
use native.Mathlib.Omega.{arith}
use lib.ListN.{length, get_or, take, drop, length-append, length-drop, take-append-drop, get_or-append}
use lib.Seq.{length-take-le, get_or-take, get_or-drop, get_or-append-add, drop_at, drop-drop}
use lib.Seq.{take-append-le, take-append-add, drop-append-le, drop-append-add}
use Rattle.layout.specs.Bytes.{two, bytes2, part, put_at}
use Rattle.layout.proofs.Bytes.{two_same, length_bytes2}
use Rattle.layout.proofs.Parts.{length_of_part, part_at, part_kept}

module _ (b : List ℕ) (at : ℕ) (new : List ℕ) (fits : at + length new ≤ length b) where
  before_length : length (take at b) ≡ at
  before_length = length-take-le at b (omega arith)

  pub put_length : length (put_at b at new) ≡ length b
  unfolding put_at
  put_length = simp (length-append, before_length, length-drop) (omega arith)

  -- Each byte.
  pub put_before : (i : ℕ) → i < at → get_or (put_at b at new) i 0 ≡ get_or b i 0
  unfolding put_at
  put_before i l =
      get_or-append (take at b) (new ++ drop (at + length new) b) 0 i (omega (arith, before_length)) ∙ get_or-take at b i 0 l

  pub put_new : (i : ℕ) → i < length new → get_or (put_at b at new) (at + i) 0 ≡ get_or new i 0
  unfolding put_at
  put_new i l =
      let e : at + i ≡ length (take at b) + i = omega (arith, before_length) in
      ap (λ k. get_or (take at b ++ (new ++ drop (at + length new) b)) k 0) e ∙
      (get_or-append-add (take at b) (new ++ drop (at + length new) b) i 0 ∙ get_or-append new (drop (at + length new) b) 0 i l)

  pub put_behind : (i : ℕ) → at + length new ≤ i → get_or (put_at b at new) i 0 ≡ get_or b i 0
  unfolding put_at
  put_behind i l =
      let d : ℕ = i - (at + length new) in
      let e : i ≡ length (take at b) + (length new + d) = omega (arith, before_length) in
      let f : at + length new + d ≡ i = omega arith in
      ap (λ k. get_or (take at b ++ (new ++ drop (at + length new) b)) k 0) e ∙
      (get_or-append-add (take at b) (new ++ drop (at + length new) b) (length new + d) 0 ∙
      (get_or-append-add new (drop (at + length new) b) d 0 ∙ (get_or-drop (at + length new) b d 0 ∙ ap (λ k. get_or b k 0) f)))

  pub put_kept : (i : ℕ) → (i < at) ⊎ (at + length new ≤ i) → get_or (put_at b at new) i 0 ≡ get_or b i 0
  put_kept i = ⊎_elim (put_before i) (put_behind i)

  -- What begins with the new bytes, and what begins behind them.
  pub drop_put : drop at (put_at b at new) ≡ new ++ drop (at + length new) b
  unfolding put_at
  drop_put = drop_at (take at b) (new ++ drop (at + length new) b) at before_length

  pub drop_behind : (i : ℕ) → at + length new ≤ i → drop i (put_at b at new) ≡ drop i b
  unfolding put_at
  drop_behind i l =
      let d : ℕ = i - (at + length new) in
      let e : i ≡ length (take at b ++ new) + d = simp (length-append, before_length) (omega arith) in
      let f : at + length new + d ≡ i = omega arith in
      ap (λ j. drop j (take at b ++ (new ++ drop (at + length new) b))) e ∙
      (rw (← append_assoc (take at b) new (drop (at + length new) b)) (drop-append-add (take at b ++ new) (drop (at + length new) b) d) ∙
      (drop-drop d (at + length new) b ∙ ap (λ j. drop j b) f))

  -- A number of two bytes that are not touched.
  pub two_kept : (i : ℕ) → (i + 2 ≤ at) ⊎ (at + length new ≤ i) → two (put_at b at new) i ≡ two b i
  two_kept i =
      ⊎_elim (λ l. two_same (put_at b at new) b i i (put_before i (omega arith)) (put_before (i + 1) (omega arith)))
      (λ l. two_same (put_at b at new) b i i (put_behind i (omega arith)) (put_behind (i + 1) (omega arith)))

-- A number of two bytes that is put there.
module _ (b : List ℕ) (at x : ℕ) (h : at + 2 ≤ length b) where
  number_fits : at + length (bytes2 x) ≤ length b
  number_fits = omega (arith, length_bytes2 x)

  pub number_length : length (put_at b at (bytes2 x)) ≡ length b
  number_length = put_length b at (bytes2 x) number_fits

  pub number_high : get_or (put_at b at (bytes2 x)) at 0 ≡ x / 256
  unfolding bytes2
  number_high =
      let z : at ≡ at + 0 = omega arith in
      ap (λ k. get_or (put_at b at (bytes2 x)) k 0) z ∙ put_new b at (bytes2 x) number_fits 0 (omega (arith, length_bytes2 x))

  pub number_low : get_or (put_at b at (bytes2 x)) (at + 1) 0 ≡ x % 256
  unfolding bytes2
  number_low = put_new b at (bytes2 x) number_fits 1 (omega (arith, length_bytes2 x))

  pub number_kept : (i : ℕ) → (i < at) ⊎ (at + 2 ≤ i) → get_or (put_at b at (bytes2 x)) i 0 ≡ get_or b i 0
  number_kept i o = put_kept b at (bytes2 x) number_fits i (rw (length_bytes2 x) o)

  pub two_put : two (put_at b at (bytes2 x)) at ≡ x
  unfolding two
  two_put = rw (number_high, number_low) (omega arith)

-- Bytes put into bytes that are put: they may as well be put afterwards.
pub put_within :
    (b : List ℕ) (at : ℕ) (mid : List ℕ) (i : ℕ) (new : List ℕ) → at + length mid ≤ length b → i + length new ≤ length mid →
    put_at b at (put_at mid i new) ≡ put_at (put_at b at mid) (at + i) new
unfolding put_at
put_within b at mid i new fits inside =
    let front : List ℕ = take at b in
    let rest : List ℕ = drop (at + length mid) b in
    let f : length front ≡ at = before_length b at mid fits in
    let e : at + i ≡ length front + i = omega arith in
    let g : at + i + length new ≡ length front + (i + length new) = omega arith in
    let before : take (at + i) (front ++ (mid ++ rest)) ≡ front ++ take i mid =
    ap (λ k. take k (front ++ (mid ++ rest))) e ∙
    (take-append-add front (mid ++ rest) i ∙ ap (front ++◌) (take-append-le i mid rest (omega arith))) in
    let behind : drop (at + i + length new) (front ++ (mid ++ rest)) ≡ drop (i + length new) mid ++ rest =
    ap (λ k. drop k (front ++ (mid ++ rest))) g ∙
    (drop-append-add front (mid ++ rest) (i + length new) ∙ drop-append-le (i + length new) mid rest inside) in
    rw (before, behind, put_length mid i new inside) (simp append_assoc)

-- A part that is put where it stands, and bytes that are put into it.
module _ (n : ℕ) (b : List ℕ) (m : ℕ) (fits : n * m + n ≤ length b) where
  put_part : put_at b (n * m) (part n b m) ≡ b
  unfolding put_at
  put_part =
      rw (length_of_part n b m fits, ← drop-drop n (n * m) b, take-append-drop n (drop (n * m) b)) (take-append-drop (n * m) b)

  pub put_in_part :
      (i : ℕ) (new : List ℕ) → i + length new ≤ n → put_at b (n * m) (put_at (part n b m) i new) ≡ put_at b (n * m + i) new
  put_in_part i new inside =
      let l : length (part n b m) ≡ n = length_of_part n b m fits in
      put_within b (n * m) (part n b m) i new (omega arith) (omega arith) ∙ ap (λ z. put_at z (n * m + i) new) put_part

-- Of the parts of n bytes, one that is put over another, and the others.
module _ (n : ℕ) (b : List ℕ) (m : ℕ) (x : List ℕ) (long : length x ≡ n) (fits : n * m + n ≤ length b) where
  pub part_put : part n (put_at b (n * m) x) m ≡ x
  unfolding put_at
  part_put =
      part_at n (take (n * m) b) x (drop (n * m + length x) b) m (length-take-le (n * m) b (omega arith)) long

  part_below : (i : ℕ) → n * i + n ≤ n * m → part n (put_at b (n * m) x) i ≡ part n b i
  unfolding put_at
  part_below i l = part_kept n b (x ++ drop (n * m + length x) b) (n * m) i l (omega arith)

  part_above : (i : ℕ) → n * m + n ≤ n * i → part n (put_at b (n * m) x) i ≡ part n b i
  part_above i l = ap (take n) (drop_behind b (n * m) x (omega arith) (n * i) (omega arith))

  pub part_put_other : (i : ℕ) → (i ≡ m → ⊥) → part n (put_at b (n * m) x) i ≡ part n b i
  part_put_other i ne =
      elim (dec_lt i m) [
        | yes l ↦ part_below i (times_below i m l)
        | no g ↦ part_above i (times_below m i (omega arith))
      ]
    where
      times_below : (j k : ℕ) → j < k → n * j + n ≤ n * k
      times_below j k l =
          let r : ℕ = k - suc j in
          let e : k ≡ suc j + r = omega arith in
          let f : n * k ≡ n * suc j + n * r = ap (λ i. n * i) e ∙ mul-add n (suc j) r in omega (arith, f, mul-suc n j)
