-- A record as it is written: the four bytes of a count, the counts in a row, and the whole.
use Prim.Native.Nat.{ℕ, zero, suc, ◌+◌, ◌*◌, ◌-◌, ◌≤◌}
use mathlib.Core.List.{List, [], ◌∷◌, ◌++◌, append_assoc, append-nil}
use mathlib.Core.Path.{◌≡◌, refl, sym, ap, ◌∙◌}
use native.Mathlib.Numerals.{add-one}
use native.Mathlib.Omega.{arith}
use borrow.Rule.Slice.PartMut.{put_mid, same_len_mid, mid_len}
use lib.ListN.{length, take, drop, set, length-append, length-take, length-drop, drop_of_length-le}
use lib.Seq.{take_at, drop_at, length-take-le}
use Rattle.layout.specs.Bytes.{bytes4}
use Rattle.layout.proofs.Bytes.{length_bytes4}
use Rattle.protocol.specs.Version.{counts}
use Rattle.layout.proofs.Copied.{copied_over}

-- Four bytes copied over four bytes.
pub four_copied :
    (x : ℕ) (o b p : List ℕ) → length o ≡ 4 → b ≡ bytes4 x → p ≡ take (length b) b ++ drop (length b) o → p ≡ bytes4 x
four_copied x o b p lo eb ep =
    let lb : length b ≡ 4 = ap length eb ∙ length_bytes4 x in
    ep ∙ (copied_over b o (omega arith) ∙ eb)

counts_last : (f : ℕ → ℕ) (i k : ℕ) → counts f i (suc k) ≡ counts f i k ++ bytes4 (f (i + k))
unfolding counts
counts_last f i zero = let e : i ≡ i + 0 = omega arith in append-nil (bytes4 (f i)) ∙ ap (λ n. bytes4 (f n)) e
counts_last f i (suc k) =
    let e : suc i + k ≡ i + suc k = omega arith in
    ap (bytes4 (f i) ++◌) (counts_last f (suc i) k ∙ ap (λ n. counts f (suc i) k ++ bytes4 (f n)) e) ∙
    sym (append_assoc (bytes4 (f i)) (counts f (suc i) k) (bytes4 (f (i + suc k))))

-- One more count written.
module _ (f : ℕ → ℕ) (out b : List ℕ) (v : ℕ) (h : 4 * v + 4 ≤ length out) (e : b ≡ bytes4 (f v)) where
  abbrev after : List ℕ
  after = put_mid (4 * v) (4 * v + 4 - 4 * v) out b

  pub count_length : length after ≡ length out
  count_length =
      same_len_mid (4 * v) (4 * v + 4 - 4 * v) out b
      (ap length e ∙ (length_bytes4 (f v) ∙ (omega arith ∙ sym (mid_len (4 * v) (4 * v + 4) out h))))

  pub count_more : take (4 * v) out ≡ counts f 0 v → take (4 * (v + 1)) after ≡ counts f 0 (v + 1)
  count_more t =
      let l : length (counts f 0 v) ≡ 4 * v = ap length (sym t) ∙ length-take-le (4 * v) out (omega arith) in
      let s : 0 + v ≡ v = omega arith in
      let w : counts f 0 (v + 1) ≡ counts f 0 v ++ b = rw (add-one v, counts_last f 0 v, s, e) in
      rw (w, t, sym (append_assoc (counts f 0 v) b (drop (4 * v + 4 - 4 * v) (drop (4 * v) out))))
      (take_at (counts f 0 v ++ b) _ (4 * (v + 1)) (length-append (counts f 0 v) b ∙ omega (arith, l, ap length e, length_bytes4 (f v))))

-- The kind k and the owner u written over the first two bytes of o.
abbrev begun : ℕ → ℕ → List ℕ → List ℕ
begun k u o = set (set o 0 k) 1 u

begun_is : (k u : ℕ) (o : List ℕ) → length o ≡ 98 → begun k u o ≡ k ∷ u ∷ drop 2 o
begun_is k u [] l = absurd (omega arith)
begun_is k u (a ∷ []) l = absurd (omega arith)
begun_is k u (a ∷ b ∷ o) l = refl

-- The handle, copied after them, and the counts cs after it.
module _ (k u : ℕ) (handle h o : List ℕ) (l : length o ≡ 98) (m : length handle ≡ 32)
    (e : h ≡ take (length handle) handle ++ drop (length handle) (take 32 (drop 2 (begun k u o)))) where
  abbrev rest : List ℕ
  rest = drop 32 (drop 2 o)

  handled : put_mid 2 32 (begun k u o) h ≡ k ∷ u ∷ (handle ++ rest)
  handled =
      let w : h ≡ handle = e ∙ copied_over handle (take 32 (drop 2 (begun k u o))) (simp length-take (omega arith)) in
      rw (w, begun_is k u o l)

  pub handled_length : length (put_mid 2 32 (begun k u o) h) ≡ 98
  handled_length = rw (handled, length-append handle rest, m) (simp length-drop (omega arith))

  pub whole : (cs : List ℕ) → put_mid 34 64 (put_mid 2 32 (begun k u o) h) cs ≡ k ∷ u ∷ (handle ++ cs)
  whole cs =
      let z : length rest ≤ 64 = simp length-drop (omega arith) in
      rw (handled, take_at handle rest 32 m, drop_at handle rest 32 m, drop_of_length-le rest {i = 64} z, append-nil cs)
