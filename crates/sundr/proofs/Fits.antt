-- Answers that fit into a number's bits are read back, and tests tried in order give no others where each of their refusals fits.
use Prim.Native.Nat.{ℕ, ◌^◌, ◌≤◌, ◌<◌}
use mathlib.Core.Bool.{Bool, true, false, not, ◌&&◌}
use mathlib.Core.List.{List, [], ◌∷◌}
use mathlib.Core.Path.{◌≡◌, refl}
use native.Mathlib.Omega.{arith}
use lib.Dec.{leb, ltb}
use borrow.Author.Tests.{ltb-true, leb-true, ne_eqb}
use Rattle.search.specs.Search.{find, every}
use Rattle.search.proofs.Bool.{both_true}
use Rattle.search.proofs.First.{first_found}
use Rattle.refusal.specs.Answer.{Answer, accepted, refused, and_then}
use Rattle.refusal.specs.Order.{Step, pass, stop, unless, unless_each, in_order}
use Rattle.refusal.specs.Word.{word}
use Rattle.refusal.proofs.Order.{Passing}
use Rattle.refusal.proofs.Words.{words_tell}
use Rattle.sundr.specs.Read.{refusal_in, first_in, second_in, answer_in, IsRead, IsReadPlain}

-- A refusal's number and positions that are read back.
abbrev pub Fits : ℕ → ℕ → ℕ → Type 0
Fits n p q = (0 < n) × (n < 2 ^ 8) × (p < 2 ^ 24) × (q < 2 ^ 32)

abbrev pub FitsStep : Step → Type 0
FitsStep pass = Unit
FitsStep (stop n p q) = Fits n p q

abbrev pub AllFit : List Step → Type 0
AllFit [] = Unit
AllFit (s ∷ later) = FitsStep s × AllFit later

pub test_fits : (b : Bool) (n p q : ℕ) → (b ≡ false → Fits n p q) → FitsStep (unless b n p q)
test_fits true n p q f = tt
test_fits false n p q f = f refl

-- One of the papers' refusals, 1 to 17, with one position at most, up to 16.
pub small : (n p : ℕ) → (ltb 0 n && (leb n 17 && leb p 16)) ≡ true → Fits n p 0
small n p e =
    let s = both_true (ltb 0 n) (leb n 17 && leb p 16) e in
    let t = both_true (leb n 17) (leb p 16) s.1 in
    let h : (n ≤ 17) × (p ≤ 16) = (leb-true n 17 t.0, leb-true p 16 t.1) in
    (ltb-true 0 n s.0, omega (arith, h.0), omega (arith, h.1), omega arith)

pub small_fits : (b : Bool) (n p : ℕ) → (ltb 0 n && (leb n 17 && leb p 16)) ≡ true → FitsStep (unless b n p 0)
small_fits b n p e = test_fits b n p 0 (λ f. small n p e)

-- A test over k places refuses at one of them.
pub each_fits : (t : ℕ → Bool) (k n : ℕ) → k ≤ 2 ^ 24 → 0 < n → n ≤ 16 → FitsStep (unless_each t k n)
each_fits t k n h l m =
    test_fits (every t 0 k) n (find (λ i. not (t i)) 0 k) 0
    (λ e. (l, omega arith, omega (arith, (first_found t k e).within), omega arith))

-- What is read in a number is what it was made of.
pub parts_read :
    (n p q : ℕ) → n < 2 ^ 8 → p < 2 ^ 24 → q < 2 ^ 32 →
    (refusal_in (word n p q) ≡ n) × (first_in (word n p q) ≡ p) × (second_in (word n p q) ≡ q)
parts_read n p q hn hp hq =
    let t = words_tell n p q hn hp hq in (omega (arith, t.0), omega (arith, t.1), omega (arith, t.2))

module _ {A : Type 0} (first second : A → ℕ) where
  pub result_read : (a : A) → first a < 2 ^ 24 → second a < 2 ^ 32 → IsRead first second (accepted a)
  unfolding answer_in
  result_read a h k = let t = parts_read 0 (first a) (second a) (omega arith) h k in rw (t.0, t.1, t.2)

  pub refusal_read : (n p q : ℕ) → Fits n p q → IsRead first second (refused n p q)
  unfolding answer_in
  refusal_read n p q f =
      let t = parts_read n p q f.1 f.2 f.3 in rw (t.0, t.1, t.2, ne_eqb n 0 (omega (arith, f.0)))

  pub answer_read :
      (x : Answer A) → ((a : A) → x ≡ accepted a → (first a < 2 ^ 24) × (second a < 2 ^ 32)) →
      ((n p q : ℕ) → x ≡ refused n p q → Fits n p q) → IsRead first second x
  answer_read (accepted a) f g = let h = f a refl in result_read a h.0 h.1
  answer_read (refused n p q) f g = refusal_read n p q (g n p q refl)

  pub in_order_read :
      (ts : List Step) (x : Answer A) → AllFit ts → (Passing ts → IsRead first second x) → IsRead first second (in_order ts x)
  unfolding in_order
  in_order_read [] x f on = on tt
  in_order_read (pass ∷ ts) x f on = in_order_read ts x f.1 (λ p. on (refl, p))
  in_order_read (stop n p q ∷ ts) x f on = refusal_read n p q f.0

-- Answers whose result no number tells.
module _ {A : Type 0} where
  pub plain_read : (ts : List Step) (a : A) → AllFit ts → IsReadPlain (in_order ts (accepted a))
  plain_read ts a f = in_order_read (λ b. 0) (λ b. 0) ts (accepted a) f (λ p. result_read (λ b. 0) (λ b. 0) a (omega arith) (omega arith))

  pub plain_then : {B : Type 0} (x : Answer A) (f : A → B) → IsReadPlain x → IsReadPlain (and_then x (λ a. accepted (f a)))
  plain_then (accepted a) f e = e
  plain_then (refused n p q) f e = e
