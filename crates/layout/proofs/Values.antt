-- Laws of the values of a function at places in a row, and of a list that is filled with them from the front.
use Prim.Native.Nat.{ℕ, zero, suc, ◌+◌, ◌-◌, ◌≤◌, ◌<◌}
use mathlib.Core.List.{List, [], ◌∷◌, ◌++◌}
use mathlib.Core.Path.{◌≡◌, refl, sym, ap, ap₂, ◌∙◌}
use native.Mathlib.Decide.{dec_le}
use native.Mathlib.Numerals.{add-one}
use native.Mathlib.Omega.{arith}
use lib.ListN.{length, get_or, take, drop, set, replicate, length-append, length-drop, length-replicate, get_or-replicate, get_or-append, get_or-eq_default}
use lib.Seq.{take-suc-set, take-length, take_all, length-take-le, get_or-take, get_or-drop, get_or-append-add, ext_get_or}
use Rattle.layout.specs.Bytes.{values, bytes_at}

pub length_values : (f : ℕ → ℕ) (i k : ℕ) → length (values f i k) ≡ k
unfolding values
length_values f i zero = refl
length_values f i (suc k) = ap suc (length_values f (suc i) k)

pub get_or_values : (f : ℕ → ℕ) (i k j : ℕ) → j < k → get_or (values f i k) j 0 ≡ f (i + j)
unfolding values
get_or_values f i zero j h = absurd (omega arith)
get_or_values f i (suc k) zero h = let e : i ≡ i + 0 = omega arith in ap f e
get_or_values f i (suc k) (suc j) h =
    let e : suc i + j ≡ i + suc j = omega arith in get_or_values f (suc i) k j (omega arith) ∙ ap f e

pub value_at : (f : ℕ → ℕ) (k j : ℕ) → j < k → get_or (values f 0 k) j 0 ≡ f j
value_at f k j h = let e : 0 + j ≡ j = omega arith in get_or_values f 0 k j h ∙ ap f e

-- Functions that agree at each place have the same values.
pub values_cong : (f g : ℕ → ℕ) (i k : ℕ) → ((j : ℕ) → i ≤ j → j < i + k → f j ≡ g j) → values f i k ≡ values g i k
unfolding values
values_cong f g i zero h = refl
values_cong f g i (suc k) h =
    ap₂ ◌∷◌ (h i (omega arith) (omega arith)) (values_cong f g (suc i) k (λ j a b. h j (omega arith) (omega arith)))

-- A list of these values at each place.
pub values_each : (f : ℕ → ℕ) (xs : List ℕ) (n : ℕ) → length xs ≡ n → ((i : ℕ) → i < n → get_or xs i 0 ≡ f i) → xs ≡ values f 0 n
values_each f xs n l each =
    ext_get_or 0 xs (values f 0 n) (l ∙ sym (length_values f 0 n))
    (λ i h. let k : i < n = omega arith in each i k ∙ sym (value_at f n i k))

-- The n bytes from a on, where as many are there.
pub values_rest : (b : List ℕ) (a n : ℕ) → n ≤ length (drop a b) → take n (drop a b) ≡ bytes_at b a n
values_rest b a n h =
    values_each _ (take n (drop a b)) n (length-take-le n (drop a b) h) (λ i k. get_or-take n (drop a b) i 0 k ∙ get_or-drop a b i 0)

pub values_part : (b : List ℕ) (a n : ℕ) → a + n ≤ length b → bytes_at b a n ≡ take n (drop a b)
values_part b a n h = sym (values_rest b a n (simp length-drop (omega arith)))

-- All of them.
pub values_whole : (b : List ℕ) (n : ℕ) → length b ≡ n → bytes_at b 0 n ≡ b
values_whole b n l = values_part b 0 n (omega arith) ∙ take_all n b (omega arith)

-- A byte after m others that were copied over n zeros.
zero_after : (s : List ℕ) (m n i : ℕ) → length s ≡ m → m ≤ i → i < n → get_or (s ++ drop m (replicate n 0)) i 0 ≡ 0
zero_after s m n i l lo hi =
    let zeros : List ℕ = replicate n 0 in
    let p : i ≡ length s + (i - m) = omega arith in
    let q : m + (i - m) ≡ i = omega arith in
    ap (λ x. get_or (s ++ drop m zeros) x 0) p ∙
    rw (get_or-append-add s (drop m zeros) (i - m) 0, get_or-drop m zeros (i - m) 0, q) (get_or-replicate n i 0 0 hi)

-- The m bytes that are there, copied over n zeros.
pub rest_copied :
    (b s : List ℕ) (a m n : ℕ) → m ≤ n → m ≤ length b - a → ((i : ℕ) → m ≤ i → i < n → length b ≤ a + i) → s ≡ take m (drop a b) →
    take (length s) s ++ drop (length s) (replicate n 0) ≡ bytes_at b a n
rest_copied b s a m n few h past e =
    let l : length s ≡ m = rw e (length-take-le m (drop a b) (simp length-drop (omega arith))) in
    let r : length (s ++ drop m (replicate {A = ℕ} n 0)) ≡ n = simp (length-append, length-drop, length-replicate) (omega arith) in
    rw (take-length, l)
    (ext_get_or {A = ℕ} 0 _ _ (r ∙ sym (length_values _ 0 n))
    (λ i k.
    let z : 0 + i ≡ i = omega arith in
    let v : get_or (bytes_at b a n) i 0 ≡ get_or b (a + i) 0 = get_or_values _ 0 n i (omega arith) ∙ ap (λ j. get_or b (a + j) 0) z in
    elim (dec_le m i) [
      | yes f ↦ rw (v, get_or-eq_default b 0 (past i f (omega arith))) (zero_after s m n i l f (omega arith))
      | no f ↦ rw (v, get_or-append s (drop m (replicate n 0)) 0 i (omega arith), e, get_or-take m (drop a b) i 0 (omega arith), get_or-drop a b i 0)
    ]))

-- The same, where all are there.
pub part_copied :
    (b s : List ℕ) (a n : ℕ) → a + n ≤ length b → s ≡ take n (drop a b) →
    take (length s) s ++ drop (length s) (replicate n 0) ≡ bytes_at b a n
part_copied b s a n h e = rest_copied b s a n n (omega arith) (omega arith) (λ i l k. absurd (omega arith)) e

-- The same, of all bytes from a on, where there are no more than n.
pub end_copied :
    (b s : List ℕ) (a n : ℕ) → s ≡ drop a b → length s ≤ n → take (length s) s ++ drop (length s) (replicate n 0) ≡ bytes_at b a n
end_copied b s a n e few =
    let l : length s ≡ length b - a = ap length e ∙ length-drop a b in
    rest_copied b s a (length s) n few (omega arith) (λ i k h. omega arith) (sym (take-length s) ∙ ap (take (length s)) e)

values_last : (f : ℕ → ℕ) (i k : ℕ) → values f i (suc k) ≡ values f i k ++ (f (i + k) ∷ [])
unfolding values
values_last f i zero = let e : i ≡ i + 0 = omega arith in ap (λ n. f n ∷ []) e
values_last f i (suc k) =
    let e : suc i + k ≡ i + suc k = omega arith in
    ap (f i ∷◌) (values_last f (suc i) k ∙ ap (λ n. values f (suc i) k ++ (f n ∷ [])) e)

-- One more place of a list that is being filled.
pub filled :
    (f : ℕ → ℕ) (l : List ℕ) (k a : ℕ) → k < length l → take k l ≡ values f 0 k → a ≡ f k → take (k + 1) (set l k a) ≡ values f 0 (k + 1)
filled f l k a h e q =
    let z : f (0 + k) ≡ a = (let s : 0 + k ≡ k = omega arith in ap f s) ∙ sym q in
    rw (add-one k, take-suc-set l k a h, e, values_last f 0 k, z)
