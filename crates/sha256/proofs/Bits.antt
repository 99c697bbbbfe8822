-- Equations of words that hold at each binary digit: the short forms of Ch and Maj. Two functions that go digit by digit
-- are equal if they are equal on digits.
use Rattle.std.proofs.Common.{◌≡◌, ℕ, zero, suc, ◌+◌, ◌-◌, ◌*◌, ◌/◌, ◌%◌, ◌^◌, ◌<◌, ◌≤◌, sym, refl, ap, ◌∙◌, pow-suc, arith}
use lib.Bits.{bit_and, bit_xor, xor_shr, and_shr, xor_mod, and_mod}

xor_half : (a b : ℕ) → bit_xor a b / 2 ≡ bit_xor (a / 2) (b / 2)
xor_half a b = xor_shr a b 1

and_half : (a b : ℕ) → bit_and a b / 2 ≡ bit_and (a / 2) (b / 2)
and_half a b = and_shr a b 1

xor_odd : (a b : ℕ) → bit_xor a b % 2 ≡ bit_xor (a % 2) (b % 2)
xor_odd a b = xor_mod a b 1

and_odd : (a b : ℕ) → bit_and a b % 2 ≡ bit_and (a % 2) (b % 2)
and_odd a b = and_mod a b 1

ruleset halves = (xor_half, and_half)

ruleset odds = (xor_odd, and_odd)

-- A function of three words that goes digit by digit.
abbrev Digitwise : (ℕ → ℕ → ℕ → ℕ) → Type 0
Digitwise f = (x y z : ℕ) → (f x y z / 2 ≡ f (x / 2) (y / 2) (z / 2)) × (f x y z % 2 ≡ f (x % 2) (y % 2) (z % 2))

by_digits : {a b : ℕ} → a / 2 ≡ b / 2 → a % 2 ≡ b % 2 → a ≡ b
by_digits h l = omega arith

of_two_digits : (P : ℕ → Type 0) → P 0 → P 1 → (d : ℕ) → d < 2 → P d
of_two_digits P a b zero h = a
of_two_digits P a b (suc zero) h = b
of_two_digits P a b (suc (suc d)) h = absurd (omega arith)

digit : (P : ℕ → Type 0) → P 0 → P 1 → (x : ℕ) → P (x % 2)
digit P a b x = of_two_digits P a b (x % 2) (omega arith)

module _
    (f g : ℕ → ℕ → ℕ → ℕ)
    (df : Digitwise f)
    (dg : Digitwise g)
    (e000 : f 0 0 0 ≡ g 0 0 0)
    (e001 : f 0 0 1 ≡ g 0 0 1)
    (e010 : f 0 1 0 ≡ g 0 1 0)
    (e011 : f 0 1 1 ≡ g 0 1 1)
    (e100 : f 1 0 0 ≡ g 1 0 0)
    (e101 : f 1 0 1 ≡ g 1 0 1)
    (e110 : f 1 1 0 ≡ g 1 1 0)
    (e111 : f 1 1 1 ≡ g 1 1 1)
  where
    on_digits : (x y z : ℕ) → f (x % 2) (y % 2) (z % 2) ≡ g (x % 2) (y % 2) (z % 2)
    on_digits x y z =
        digit (λ d. f d (y % 2) (z % 2) ≡ g d (y % 2) (z % 2))
        (digit (λ d. f 0 d (z % 2) ≡ g 0 d (z % 2)) (digit (λ d. f 0 0 d ≡ g 0 0 d) e000 e001 z) (digit (λ d. f 0 1 d ≡ g 0 1 d) e010 e011 z) y)
        (digit (λ d. f 1 d (z % 2) ≡ g 1 d (z % 2)) (digit (λ d. f 1 0 d ≡ g 1 0 d) e100 e101 z) (digit (λ d. f 1 1 d ≡ g 1 1 d) e110 e111 z) y)
        x

    bounded : (n x y z : ℕ) → x + y + z ≤ n → f x y z ≡ g x y z
    bounded zero x y z h =
        let p : x ≡ 0 = omega arith in let q : y ≡ 0 = omega arith in let r : z ≡ 0 = omega arith in rw (p, q, r) e000
    bounded (suc n) x y z h =
        by_digits
        ((df x y z).0 ∙ bounded n (x / 2) (y / 2) (z / 2) (omega arith) ∙ sym (dg x y z).0)
        ((df x y z).1 ∙ on_digits x y z ∙ sym (dg x y z).1)

    digitwise : (x y z : ℕ) → f x y z ≡ g x y z
    digitwise x y z = bounded (x + y + z) x y z (omega arith)

pub xor_assoc : (x y z : ℕ) → bit_xor (bit_xor x y) z ≡ bit_xor x (bit_xor y z)
xor_assoc =
    digitwise
    (λ x y z. bit_xor (bit_xor x y) z)
    (λ x y z. bit_xor x (bit_xor y z))
    (λ x y z. (simp halves, simp odds))
    (λ x y z. (simp halves, simp odds))
    refl refl refl refl refl refl refl refl

pub majority_short : (x y z : ℕ) → bit_xor y (bit_and (bit_xor x y) (bit_xor y z)) ≡ bit_xor (bit_xor (bit_and x y) (bit_and x z)) (bit_and y z)
majority_short =
    digitwise
    (λ x y z. bit_xor y (bit_and (bit_xor x y) (bit_xor y z)))
    (λ x y z. bit_xor (bit_xor (bit_and x y) (bit_and x z)) (bit_and y z))
    (λ x y z. (simp halves, simp odds))
    (λ x y z. (simp halves, simp odds))
    refl refl refl refl refl refl refl refl

choose_kept : (x y z : ℕ) → bit_xor z (bit_and x (bit_xor y z)) ≡ bit_xor (bit_and x y) (bit_xor z (bit_and x z))
choose_kept =
    digitwise
    (λ x y z. bit_xor z (bit_and x (bit_xor y z)))
    (λ x y z. bit_xor (bit_and x y) (bit_xor z (bit_and x z)))
    (λ x y z. (simp halves, simp odds))
    (λ x y z. (simp halves, simp odds))
    refl refl refl refl refl refl refl refl

complement_half : (p x : ℕ) → (p * 2 - 1 - x) / 2 ≡ p - 1 - x / 2
complement_half p x = omega arith

complement_odd : (p x : ℕ) → x < p * 2 → (p * 2 - 1 - x) % 2 ≡ 1 - x % 2
complement_odd p x h = omega arith

-- The digits of z at which x has 0, for words of k digits.
and_complement : (k x z : ℕ) → x < 2 ^ k → z < 2 ^ k → bit_and (2 ^ k - 1 - x) z ≡ bit_xor z (bit_and x z)
and_complement zero x z h l =
    let p : x ≡ 0 = omega arith in let q : z ≡ 0 = omega arith in rw (p, q)
and_complement (suc k) x z h l =
    let e : 2 ^ suc k ≡ 2 ^ k * 2 = pow-suc 2 k in
    let half : (2 ^ suc k - 1 - x) / 2 ≡ 2 ^ k - 1 - x / 2 = rw e (complement_half (2 ^ k) x) in
    let odd : (2 ^ suc k - 1 - x) % 2 ≡ 1 - x % 2 = rw e (complement_odd (2 ^ k) x (rw e at h)) in
    by_digits
    (rw (and_half, half, xor_half, and_half) (and_complement k (x / 2) (z / 2) (omega arith) (omega arith)))
    (rw (and_odd, odd, xor_odd, and_odd)
    (digit (λ d. bit_and (1 - d) (z % 2) ≡ bit_xor (z % 2) (bit_and d (z % 2)))
    (digit (λ d. bit_and 1 d ≡ bit_xor d (bit_and 0 d)) refl refl z)
    (digit (λ d. bit_and 0 d ≡ bit_xor d (bit_and 1 d)) refl refl z)
    x))

pub choose_short :
    (x y z : ℕ) → x < 2 ^ 32 → z < 2 ^ 32 → bit_xor z (bit_and x (bit_xor y z)) ≡ bit_xor (bit_and x y) (bit_and (2 ^ 32 - 1 - x) z)
choose_short x y z h l = choose_kept x y z ∙ ap (bit_xor (bit_and x y)) (sym (and_complement 32 x z h l))
