-- Laws of equal byte strings: the test says what equality says, and strings of one length are equal where each byte is.
use Prim.Native.Nat.{ℕ}
use mathlib.Core.Bool.{Bool, true, false, not, ◌&&◌}
use mathlib.Core.List.{List, [], ◌∷◌}
use mathlib.Core.Logic.{◌↔◌, ⊎_elim}
use mathlib.Core.Path.{◌≡◌, refl, sym, ap, ap₂, ◌∙◌}
use native.Mathlib.Omega.{arith}
use lib.Pointwise.{pointwise}
use lib.Dec.{eqb}
use lib.ListN.{length, get_or}
use lib.Seq.{ext_get_or}
use borrow.Author.Tests.{eqb-true, eqb-false, eq-eqb}
use Rattle.search.specs.Search.{find, every}
use Rattle.search.proofs.Bool.{not_both, bool_cases}
use Rattle.search.proofs.Search.{every_at, first_failure}
use Rattle.layout.specs.Strings.{same}

-- The library's comparison of slices, byte by byte.
same_head : (b c d : Bool) → c ≡ d → (b && c) ≡ elim b [ true ↦ d | false ↦ false ]
same_head true c d e = e
same_head false c d e = refl

pub pointwise_same : (xs ys : List ℕ) → pointwise eqb xs ys ≡ same xs ys
unfolding same
pointwise_same [] [] = refl
pointwise_same [] (y ∷ ys) = refl
pointwise_same (x ∷ xs) [] = refl
pointwise_same (x ∷ xs) (y ∷ ys) = same_head (eqb x y) _ _ (pointwise_same xs ys)

pub same_refl : (xs : List ℕ) → same xs xs ≡ true
unfolding same
same_refl [] = refl
same_refl (x ∷ xs) = rw (eq-eqb x x refl, same) (same_refl xs)

same_step :
    (x y : ℕ) (xs ys : List ℕ) (b : Bool) → eqb x y ≡ b → (same xs ys ≡ true → xs ≡ ys) →
    elim b [ true ↦ same xs ys | false ↦ false ] ≡ true → x ∷ xs ≡ y ∷ ys
same_step x y xs ys true e ih h = ap₂ ◌∷◌ (eqb-true x y e) (ih h)
same_step x y xs ys false e ih h = absurd (not_both h refl)

pub same_true : (xs ys : List ℕ) → same xs ys ≡ true → xs ≡ ys
unfolding same
same_true [] [] h = refl
same_true [] (y ∷ ys) h = absurd (not_both h refl)
same_true (x ∷ xs) [] h = absurd (not_both h refl)
same_true (x ∷ xs) (y ∷ ys) h = same_step x y xs ys (eqb x y) refl (same_true xs ys) h

pub same_means : (xs ys : List ℕ) → (same xs ys ≡ true) ↔ (xs ≡ ys)
same_means xs ys = (same_true xs ys, λ e. rw e (same_refl ys))

pub same_false : (xs ys : List ℕ) → same xs ys ≡ false → xs ≡ ys → ⊥
same_false xs ys h e = not_both (same_refl xs) (rw (← e) at h)

pub differ_same : (xs ys : List ℕ) → (xs ≡ ys → ⊥) → same xs ys ≡ false
differ_same xs ys n = ⊎_elim (λ t. absurd (n (same_true xs ys t))) (λ f. f) (bool_cases (same xs ys))

same_by :
    (xs ys : List ℕ) (b : Bool) → length xs ≡ length ys → every (λ i. eqb (get_or xs i 0) (get_or ys i 0)) 0 (length xs) ≡ b →
    b ≡ same xs ys
same_by xs ys true l e =
    let each = every_at (λ i. eqb (get_or xs i 0) (get_or ys i 0)) 0 (length xs) e in
    let q : xs ≡ ys = ext_get_or 0 xs ys l (λ i h. eqb-true (get_or xs i 0) (get_or ys i 0) (each i (omega arith) (omega arith))) in
    sym (ap (same xs) (sym q) ∙ same_refl xs)
same_by xs ys false l e =
    let f = first_failure (λ i. eqb (get_or xs i 0) (get_or ys i 0)) 0 (length xs) e in
    let i : ℕ = find (λ i. not (eqb (get_or xs i 0) (get_or ys i 0))) 0 (length xs) in
    sym (differ_same xs ys (λ q. eqb-false (get_or xs i 0) (get_or ys i 0) f.1 (ap (λ zs. get_or zs i 0) q)))

-- Strings of one length are equal if each byte is.
pub same_every :
    (xs ys : List ℕ) → length xs ≡ length ys → every (λ i. eqb (get_or xs i 0) (get_or ys i 0)) 0 (length xs) ≡ same xs ys
same_every xs ys l = same_by xs ys _ l refl
