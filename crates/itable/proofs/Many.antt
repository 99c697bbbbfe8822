-- Laws of many lookups: counts add up question by question, so each path lies within the bytes; entries stand end to end; and the answers are the
-- entries where every lookup is accepted, or the first refusal.
use Prim.Native.Nat.{ℕ, zero, suc, ◌+◌, ◌*◌, ◌≤◌, ◌<◌}
use mathlib.Core.Bool.{Bool, true, false, cond}
use mathlib.Core.List.{List, [], ◌∷◌, ◌++◌, append-nil, append_assoc}
use mathlib.Core.Logic.{⊎_elim}
use mathlib.Core.Path.{◌≡◌, refl, ap, ◌∙◌}
use native.Mathlib.Nat.{suc-add, eq-or-lt_of_le}
use native.Mathlib.Omega.{arith}
use lib.Dec.{ltb, eqb}
use lib.ListN.{length, get_or, take, length-append, length-drop}
use lib.Seq.{take-nil, take-length, length-take-le}
use Rattle.layout.proofs.Values.{length_values}
use Rattle.search.proofs.Bool.{bool_cases}
use Rattle.refusal.specs.Answer.{Answer, accepted, refused}
use Rattle.itable.specs.Block.{size, kind, used, value}
use Rattle.itable.specs.Lookup.{Entry, found, absent, entry_in, known, leading, answer_at}
use Rattle.itable.specs.Many.{total, path_at, entry_size, entry_bytes, answers_from}
use Rattle.itable.specs.ManyMeaning.{IsAccepted}
use Rattle.itable.specs.Internal.Many.{entries_from, entry_at, leads_at}

-- The blocks of the first questions. A question past the last has none.
pub total_next : (counts : List ℕ) (q : ℕ) → total (take (q + 1) counts) ≡ total (take q counts) + get_or counts q 0
unfolding total
total_next [] q = simp take-nil
total_next (n ∷ ns) zero = omega arith
total_next (n ∷ ns) (suc q) = rw (suc-add q 1) (omega (arith, total_next ns q))

pub total_front : (counts : List ℕ) (q : ℕ) → total (take q counts) + get_or counts q 0 ≤ total counts
unfolding total
total_front [] q = simp take-nil (omega arith)
total_front (n ∷ ns) zero = omega arith
total_front (n ∷ ns) (suc q) = omega (arith, total_front ns q)

pub total_all : (counts : List ℕ) → total (take (length counts) counts) ≡ total counts
total_all counts = ap total (take-length counts)

-- Where the paths fill the bytes, each has the blocks that its count says.
pub path_at_long :
    (counts paths : List ℕ) (q : ℕ) → size * total counts ≡ length paths → length (path_at counts paths q) ≡ size * get_or counts q 0
path_at_long counts paths q h =
    length-take-le _ _ (simp length-drop (omega (arith, total_front counts q)))

-- Entries in a row: those after the first are a row too.
pub entries_behind : (entry : ℕ → Entry) (q k : ℕ) → entries_from entry (suc q) k ≡ entries_from (λ j. entry (suc j)) q k
unfolding entries_from
entries_behind entry q zero = refl
entries_behind entry q (suc k) = ap (entry_bytes (entry (suc q)) ++◌) (entries_behind entry (suc q) k)

pub entries_more : (entry : ℕ → Entry) (k : ℕ) → entries_from entry 0 (k + 1) ≡ entries_from entry 0 k ++ entry_bytes (entry k)
unfolding entries_from
entries_more entry zero = append-nil (entry_bytes (entry 0))
entries_more entry (suc k) =
    rw (suc-add k 1, entries_behind entry 0 (k + 1), entries_behind entry 0 k, entries_more (λ j. entry (suc j)) k, append_assoc)

pub entries_length :
    (entry : ℕ → Entry) (k : ℕ) → ((j : ℕ) → j < k → length (entry_bytes (entry j)) ≡ entry_size) →
    length (entries_from entry 0 k) ≡ entry_size * k
unfolding entries_from
entries_length entry zero h = refl
entries_length entry (suc k) h =
    let l = entries_length (λ j. entry (suc j)) k (λ j m. h (suc j) (omega arith)) in
    rw (entries_behind entry 0 k) (simp (length-append, h 0 (omega arith), l) (omega arith))

-- The answers.
module _ (ask : ℕ → Answer Entry) where
  pub all_accepted :
      (entry : ℕ → Entry) (q k : ℕ) → ((j : ℕ) → q ≤ j → j < q + k → ask j ≡ accepted (entry j)) →
      answers_from ask q k ≡ accepted (entries_from entry q k)
  unfolding answers_from entries_from
  all_accepted entry q zero h = refl
  all_accepted entry q (suc k) h =
      rw (h q (omega arith) (omega arith), all_accepted entry (suc q) k (λ j a b. h j (omega arith) (omega arith)))

  refused_from :
      (a k q : ℕ) {n p r : ℕ} → ((j : ℕ) → a ≤ j → j < q → IsAccepted (ask j)) → a ≤ q → q < a + k → ask q ≡ refused n p r →
      answers_from ask a k ≡ refused n q p
  unfolding answers_from
  refused_from a zero q h l m e = absurd (omega arith)
  refused_from a (suc k) q {n} {p} {r} h l m e =
      ⊎_elim (λ z. let f : ask a ≡ refused n p r = ap ask z ∙ e in rw (f, z))
      (λ g. rw ((h a (omega arith) g).1, refused_from (suc a) k q (λ j b c. h j (omega arith) c) g (omega arith) e))
      (eq-or-lt_of_le {n = a} {m = q} l)

  pub first_refused :
      (k q : ℕ) {n p r : ℕ} → ((j : ℕ) → j < q → IsAccepted (ask j)) → q < k → ask q ≡ refused n p r →
      answers_from ask 0 k ≡ refused n q p
  first_refused k q h l e = refused_from 0 k q (λ j a b. h j b) (omega arith) (omega arith) e

-- An entry of a block has 33 bytes: a value has 32.
pub found_long : (b : List ℕ) (j : ℕ) → length (entry_bytes (found (value b j))) ≡ entry_size
found_long b j = ap suc (length_values _ 0 32)

chosen_long :
    (c : Bool) (x y : Entry) → length (entry_bytes x) ≡ entry_size → length (entry_bytes y) ≡ entry_size →
    length (entry_bytes (cond c x y)) ≡ entry_size
chosen_long true x y h l = h
chosen_long false x y h l = l

module _ (b : List ℕ) (i : ℕ) where
  pub entry_at_long : length (entry_bytes (entry_at b i)) ≡ entry_size
  unfolding entry_at entry_in
  entry_at_long =
      chosen_long (eqb (kind b) 3) _ absent (chosen_long (ltb _ (used b)) _ absent (found_long b _) refl) refl

  pub answer_at_is :
      (left d : ℕ) (on : ℕ → Answer Entry) → answer_at b i left d on ≡ leading (leads_at b i) (known left d (entry_at b i)) on
  unfolding answer_at leads_at entry_at
  answer_at_is left d on = ⊎_elim (λ e. rw e) (λ e. rw e) (bool_cases (eqb (kind b) 3))
