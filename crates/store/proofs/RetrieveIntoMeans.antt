-- Retrieving into a buffer means what Meaning says: a block that is given has room in the buffer, so it and what the buffer holds behind it are as
-- long as the buffer. Each byte is told, so nothing else is left; and a refusal is the one of retrieving.
use Prim.Native.Nat.{ℕ, ◌+◌, ◌-◌, ◌≤◌}
use mathlib.Core.List.{List, ◌++◌}
use mathlib.Core.Logic.{◌↔◌}
use mathlib.Core.Path.{◌≡◌, refl, sym, ap, ◌∙◌}
use native.Mathlib.Decide.{dec_lt}
use native.Mathlib.Omega.{arith}
use lib.ListN.{length, drop, length-append, length-drop, get_or-append}
use lib.Seq.{get_or-append-add, get_or-drop, ext_get_or}
use Rattle.refusal.specs.Answer.{Answer, accepted, refused, and_then}
use Rattle.store.specs.Calls.{retrieve, retrieve_into}
use Rattle.store.specs.Meaning.{AtFront, RetrieveIntoMeans}
use Rattle.store.proofs.RetrieveMeans.{retrieve_means}

at_front : (b buffer : List ℕ) → length b ≤ length buffer → AtFront b buffer (b ++ drop (length b) buffer)
at_front b buffer fits =
    record {
      same_length = simp (length-append, length-drop) (omega arith);
      front = get_or-append b (drop (length b) buffer) 0;
      behind = λ i l.
          let k : ℕ = i - length b in
          let e : length b + k ≡ i = omega arith in
          rw e at (get_or-append-add b (drop (length b) buffer) k 0 ∙ get_or-drop (length b) buffer k 0);
    }

front_once : {b buffer : List ℕ} (t r : List ℕ) → AtFront b buffer t → AtFront b buffer r → t ≡ r
front_once {b} t r f g =
    ext_get_or 0 t r (f.same_length ∙ sym g.same_length)
    (λ i _.
    elim (dec_lt i (length b)) [
      | yes l ↦ f.front i l ∙ sym (g.front i l)
      | no m ↦ let l : length b ≤ i = omega arith in f.behind i l ∙ sym (g.behind i l)
    ])

one_answer : {a : List ℕ} {n p q : ℕ} → accepted a ≡ refused n p q → ⊥
one_answer e = let z : ◌≡◌ {A = ℕ} 0 1 = cc in absurd (omega arith)

-- Of any answer whose result has room.
into_means :
    (buffer : List ℕ) (x : Answer (List ℕ)) → ((b : List ℕ) → x ≡ accepted b → length b ≤ length buffer) →
    ((t : List ℕ) →
    (and_then x (λ b. accepted (b ++ drop (length b) buffer)) ≡ accepted t) ↔ ((b : List ℕ) × (x ≡ accepted b) × AtFront b buffer t)) ×
    ((n p q : ℕ) → (and_then x (λ b. accepted (b ++ drop (length b) buffer)) ≡ refused n p q) ↔ (x ≡ refused n p q))
into_means buffer (accepted b) fits =
    let here : AtFront b buffer (b ++ drop (length b) buffer) = at_front b buffer (fits b refl) in (
      λ t. (
        λ e. let d : b ++ drop (length b) buffer ≡ t = cc in (b, refl, rw d at here),
        λ w. let d : w.0 ≡ b = cc w.1 in ap accepted (front_once _ t here (rw d at w.2)),
      ),
      λ n p q. (λ e. absurd (one_answer e), λ e. absurd (one_answer e)),
    )
into_means buffer (refused i j k) fits =
    (λ t. (λ e. absurd (one_answer (sym e)), λ w. absurd (one_answer (sym w.1))), λ n p q. (λ e. cc, λ e. cc))

pub retrieve_into_means : RetrieveIntoMeans
unfolding retrieve_into
retrieve_into_means s hash buffer =
    into_means buffer (retrieve s hash (length buffer))
    (λ b e.
    let m = ((retrieve_means s hash (length buffer)).0 b).0 e in
    let room = m.0.1 m.1.0 m.1.1 in omega (arith, room, m.1.2.long))
