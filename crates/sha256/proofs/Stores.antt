-- What the stores of a word, and of a hash value's eight words, leave in a buffer: the bytes that the standard names, big-endian.
use Rattle.std.proofs.Common.{◌≡◌, ℕ, zero, suc, ◌+◌, ◌-◌, ◌≤◌, List, [], ◌++◌, length, get_or, take, drop, ap, ◌∙◌, append-nil, arith, length-drop, drop_of_length-le, length-take, drop-cons}
use lib.Seq.{drop-length, take-length}
use borrow.Rule.Slice.PartMut.{put_mid, Post-is}
use Rattle.layout.specs.Bytes.{bytes4, values}
use Rattle.layout.proofs.Bytes.{length_bytes4}
use Rattle.sha256.specs.declared.State.{State}
use Rattle.sha256.specs.Sha256.{bytes_of}

-- The word x put at i.
abbrev pub put : List ℕ → ℕ → ℕ → List ℕ
put l i x = take i l ++ (bytes4 x ++ drop (i + 4) l)

-- The word's bytes, copied to the four places from i on.
pub stored :
    (l : List ℕ) (i x : ℕ) {b p : List ℕ} → i + 4 ≤ length l → b ≡ bytes4 x →
    p ≡ take (length b) b ++ drop (length b) (take (i + 4 - i) (drop i l)) → put_mid i (i + 4 - i) l p ≡ put l i x
stored l i x {b} {p} h eb ep =
    let n : length b ≡ 4 = ap length eb ∙ length_bytes4 x in
    let none : drop (length b) (take (i + 4 - i) (drop i l)) ≡ [] =
    drop_of_length-le (take (i + 4 - i) (drop i l)) {i = length b} (simp (length-take, length-drop) (omega arith)) in
    let e : p ≡ bytes4 x = ep ∙ rw (none, append-nil, take-length b, eb) in
    rw (Post-is i (i + 4) l (omega arith), e)

-- The last n elements of a list, from i on, written out: on a list of known length what follows computes.
laid_out : (n i : ℕ) (l : List ℕ) → i + n ≡ length l → drop i l ≡ values (λ j. get_or l j 0) i n
unfolding values
laid_out zero i l h = let e : i ≡ length l = omega arith in rw e (drop-length l)
laid_out (suc n) i l h = rw (drop-cons l i 0 (omega arith), laid_out n (suc i) l (omega arith))

-- Eight words put end to end fill a buffer of 32 bytes.
pub written : (s : State) (l : List ℕ) {l1 l2 l3 l4 l5 l6 l7 l8 : List ℕ} →
    length l ≡ 32 →
    l1 ≡ put l 0 s.a →
    l2 ≡ put l1 4 s.b →
    l3 ≡ put l2 8 s.c →
    l4 ≡ put l3 12 s.d →
    l5 ≡ put l4 16 s.e →
    l6 ≡ put l5 20 s.f →
    l7 ≡ put l6 24 s.g →
    l8 ≡ put l7 28 s.h →
    l8 ≡ bytes_of s
unfolding bytes_of bytes4 values
written s l h e1 e2 e3 e4 e5 e6 e7 e8 =
    let o : l ≡ values (λ j. get_or l j 0) 0 32 = laid_out 32 0 l (omega arith) in
    rw (e8, e7, e6, e5, e4, e3, e2, e1)
    (ap
    (λ (o : List ℕ).
    put (put (put (put (put (put (put (put o 0 s.a) 4 s.b) 8 s.c) 12 s.d) 16 s.e) 20 s.f) 24 s.g) 28 s.h)
    o)
