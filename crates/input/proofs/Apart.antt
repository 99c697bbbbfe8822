-- The parts of an input: the remembered structure, and the marks and records as they are copied.
use Prim.Native.Nat.{ℕ, zero, suc, ◌+◌, ◌*◌, ◌-◌, ◌%◌, ◌≤◌, ◌<◌}
use mathlib.Core.Bool.{Bool, true, false, cond}
use mathlib.Core.List.{List, [], ◌∷◌, ◌++◌}
use mathlib.Core.Path.{◌≡◌, refl, sym, ap, ◌∙◌}
use native.Mathlib.Numerals.{add-one}
use native.Mathlib.Omega.{arith}
use lib.Dec.{eqb}
use lib.ListN.{length, get_or, set, take, drop, length-append, length-take, length-drop}
use lib.Seq.{take_at, take-suc-set, drop-drop, get_or-take, get_or-drop}
use Rattle.layout.specs.Bytes.{part}
use Rattle.layout.proofs.Values.{length_values, filled}
use Rattle.input.specs.Form.{flag, memory, sent, behind_memory, first_marks, first_records}

-- The bytes between the flag and the place after the remembered structure.
between : (t : Bool) (input : List ℕ) → take (cond t 133 35 - 35) (drop 35 input) ≡ cond t (take 98 (drop 35 input)) []
between true input = refl
between false input = refl

pub memory_is : (input : List ℕ) → take (behind_memory (flag input) - 35) (drop 35 input) ≡ memory input
unfolding memory behind_memory
memory_is input = between (eqb (flag input) 1) input

-- So many bytes are remembered as lie between these places.
module _ (input : List ℕ) (n : ℕ) (e : 35 + n ≡ behind_memory (flag input)) where
  pub memory_cut : take n (drop 35 input) ≡ memory input
  memory_cut = let k : n ≡ behind_memory (flag input) - 35 = omega (arith, e) in rw k (memory_is input)

  pub sent_cut : drop n (drop 35 input) ≡ sent input
  sent_cut = drop-drop n 35 input ∙ ap (λ k. drop k input) e

none_or_one : (t : Bool) (n : ℕ) → 35 + n ≡ cond t 133 35 → (n % 98 ≡ 0) × (n ≤ 98)
none_or_one true n e = (omega (arith, e), omega (arith, e))
none_or_one false n e = (omega (arith, e), omega (arith, e))

pub remembered_bytes : (f n : ℕ) → 35 + n ≡ behind_memory f → (n % 98 ≡ 0) × (n ≤ 98)
unfolding behind_memory
remembered_bytes f n e = none_or_one (eqb f 1) n e

pub mark_is : (sent : List ℕ) (i : ℕ) → get_or sent (99 * i) 0 ≡ get_or (part 99 sent i) 0 0
mark_is sent i =
    let e : 99 * i ≡ 99 * i + 0 = omega arith in
    ap (λ n. get_or sent n 0) e ∙ (sym (get_or-drop (99 * i) sent 0 0) ∙ sym (get_or-take 99 (drop (99 * i) sent) 0 0 (omega arith)))

-- A record as it is lent: the 98 bytes after its mark.
lent : (sent : List ℕ) (i : ℕ) → take (99 * i + 99 - (99 * i + 1)) (drop (99 * i + 1) sent) ≡ drop 1 (part 99 sent i)
lent sent i =
    let n : 99 * i + 99 - (99 * i + 1) ≡ 98 = omega arith in
    rw (n, sym (drop-drop 1 (99 * i) sent)) (sym (behind_one (drop (99 * i) sent)))
  where
    behind_one : (l : List ℕ) → drop 1 (take 99 l) ≡ take 98 (drop 1 l)
    behind_one [] = refl
    behind_one (x ∷ l) = refl

pub marks_long : (sent : List ℕ) (i : ℕ) → length (first_marks sent i) ≡ i
unfolding first_marks
marks_long sent i = length_values (λ j. get_or (part 99 sent j) 0 0) 0 i

pub records_long : (sent : List ℕ) (i : ℕ) → 99 * i ≤ length sent → length (first_records sent i) ≡ 98 * i
unfolding first_records
records_long sent zero h = refl
records_long sent (suc i) h = simp (length-append, length-drop, length-take) (omega (arith, records_long sent i (omega arith)))

-- One more mark, and one more record.
pub mark_more : (sent marks : List ℕ) (i : ℕ) → marks ≡ first_marks sent i → marks ++ get_or sent (99 * i) 0 ∷ [] ≡ first_marks sent (i + 1)
unfolding first_marks
mark_more sent marks i e =
    let m = get_or sent (99 * i) 0 in
    let all = marks ++ m ∷ [] in
    let l : length marks ≡ i = ap length e ∙ marks_long sent i in
    let t : take i all ≡ marks = take_at marks (m ∷ []) i l in
    let k : i < length all = simp length-append (omega (arith, l)) in
    ap (λ x. x ++ m ∷ []) (sym t) ∙
    (sym (take-suc-set all i m k) ∙
    (ap (λ n. take n (set all i m)) (sym (add-one i)) ∙ filled (λ j. get_or (part 99 sent j) 0 0) all i m k (t ∙ e) (mark_is sent i)))

pub record_more :
    (sent list : List ℕ) (i : ℕ) → list ≡ first_records sent i →
    list ++ take (99 * i + 99 - (99 * i + 1)) (drop (99 * i + 1) sent) ≡ first_records sent (i + 1)
unfolding first_records
record_more sent list i e = rw (add-one i, e, lent sent i)
