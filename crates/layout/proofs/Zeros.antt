-- Laws of zeros behind bytes. Past the end of the bytes zeros are read, so that zeros that are written there are read as well.
use Prim.Native.Nat.{ℕ, zero, suc, ◌+◌, ◌-◌, ◌≤◌, ◌<◌, min}
use mathlib.Core.Bool.{Bool, true, ◌&&◌}
use mathlib.Core.List.{List, [], ◌∷◌, ◌++◌, append_assoc, append-nil}
use mathlib.Core.Logic.{◌↔◌}
use mathlib.Core.Path.{◌≡◌, refl, sym, ap, ◌∙◌}
use native.Mathlib.Numerals.{add-one}
use native.Mathlib.Omega.{arith}
use lib.Dec.{eqb}
use lib.ListN.{length, get_or, take, set, replicate, replicate-append-replicate, length-append, length-replicate, get_or-eq_default}
use lib.Seq.{take-suc-set, ext_get_or}
use borrow.Author.Tests.{eqb-true, eq-eqb}
use Rattle.search.specs.Search.{every}
use Rattle.search.proofs.Search.{every_at, every_intro, every_next, every_reach}
use Rattle.layout.specs.Strings.{zeros}

pub zeros_read : (b : List ℕ) (n i : ℕ) → get_or (b ++ replicate n 0) i 0 ≡ get_or b i 0
zeros_read [] zero i = refl
zeros_read [] (suc n) zero = refl
zeros_read [] (suc n) (suc i) = zeros_read [] n i
zeros_read (x ∷ b) n zero = refl
zeros_read (x ∷ b) n (suc i) = zeros_read b n i

-- Bytes that are read as shorter ones are these, with zeros behind them.
pub zeros_behind :
    (b s : List ℕ) (n : ℕ) → length b ≡ length s + n → ((i : ℕ) → i < length b → get_or b i 0 ≡ get_or s i 0) → b ≡ s ++ replicate n 0
zeros_behind b s n l f =
    let m : length (s ++ replicate {A = ℕ} n 0) ≡ length s + n =
    length-append s (replicate n 0) ∙ ap (λ k. length s + k) (length-replicate n 0) in
    ext_get_or 0 b (s ++ replicate n 0) (l ∙ sym m) (λ i h. f i h ∙ sym (zeros_read s n i))

-- The test of zero bytes from a place on: what it says of each byte.
pub zeros_mean : (b : List ℕ) (at n : ℕ) → (zeros b at n ≡ true) ↔ ((j : ℕ) → j < n → get_or b (at + j) 0 ≡ 0)
unfolding zeros
zeros_mean b at n =
    let zero : ℕ → Bool = λ x. eqb (get_or b x 0) 0 in (
      λ e j l. eqb-true (get_or b (at + j) 0) 0 (every_at zero at n e (at + j) (omega arith) (omega arith)),
      λ f.
          every_intro zero at n
          (λ x l h. let e : at + (x - at) ≡ x = omega arith in eq-eqb (get_or b x 0) 0 (rw e at (f (x - at) (omega arith)))),
    )

-- By one byte more, and by those past the end, which are read as zeros.
module _ (b : List ℕ) (from x : ℕ) (h : from ≤ x) where
  pub zeros_next : zeros b from (x + 1 - from) ≡ (zeros b from (x - from) && eqb (get_or b x 0) 0)
  unfolding zeros
  zeros_next =
      let p : ℕ → Bool = λ j. eqb (get_or b j 0) 0 in
      let more : x + 1 - from ≡ x - from + 1 = omega arith in
      let here : from + (x - from) ≡ x = omega arith in
      ap (every p from) more ∙ (every_next p from (x - from) ∙ ap (λ j. every p from (x - from) && p j) here)

  pub zeros_reach : (to : ℕ) → x - from ≤ to - from → min to (length b) ≤ x → zeros b from (x - from) ≡ zeros b from (to - from)
  unfolding zeros
  zeros_reach to w past =
      every_reach (λ j. eqb (get_or b j 0) 0) from (x - from) (to - from) w
      (λ j a l. eq-eqb (get_or b j 0) 0 (get_or-eq_default b 0 {n = j} (omega arith)))

-- Zeros from a place on: none yet, and one more.
pub uncleared : (from : ℕ) (o : List ℕ) → take from o ≡ take from o ++ replicate (from - from) 0
uncleared from o = let z : from - from ≡ 0 = omega arith in rw (z, append-nil)

pub cleared :
    (from i : ℕ) (o l : List ℕ) → from ≤ i → i < length l → take i l ≡ take from o ++ replicate (i - from) 0 →
    take (i + 1) (set l i 0) ≡ take from o ++ replicate (i + 1 - from) 0
cleared from i o l h k e =
    let n : i - from + 1 ≡ suc i - from = omega arith in
    let r : replicate {A = ℕ} (i - from) 0 ++ replicate 1 0 ≡ replicate (suc i - from) 0 =
    replicate-append-replicate (i - from) 1 0 ∙ ap (λ m. replicate {A = ℕ} m 0) n in
    rw (add-one i, take-suc-set l i 0 k, e, append_assoc (take from o)) (ap (take from o ++◌) r)
