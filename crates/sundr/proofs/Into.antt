-- Laws of a lookup into a lent buffer, by what the lookup says.
use Prim.Native.Nat.{ℕ}
use mathlib.Core.List.{List, ◌++◌, append-nil}
use mathlib.Core.Path.{◌≡◌, refl, sym, ap, ◌∙◌}
use native.Mathlib.Omega.{arith}
use lib.ListN.{length, take, drop, drop_of_length-le}
use lib.Seq.{take-length}
use borrow.Author.Tests.{eq-eqb, ne_eqb}
use Rattle.std.specs.Prelude.{Option, None, Some, Result, Ok, Err}
use Rattle.refusal.specs.Answer.{Answer, accepted, refused, and_then}
use Rattle.refusal.specs.Order.{in_order}
use Rattle.refusal.specs.Refusal.{refusal}
use Rattle.refusal.specs.Result.{left}
use Rattle.refusal.specs.Word.{word, answer_word, plain_word}
use Rattle.refusal.specs.declared.Refusal.{Refusal}
use Rattle.refusal.proofs.Numbered.{ends, keeps}
use Rattle.itable.specs.Lookup.{Entry, lookup}
use Rattle.lookup.specs.Looked.{answer}
use Rattle.refusal.proofs.Words.{accepted_word, refused_word}
use Rattle.sundr.specs.Lookup.{looked_up, is_found, entry_or, lookup_into}

-- The call answers w, and the buffer is `after`.
pub record Tells (handle : List ℕ) (i : ℕ) (path before after : List ℕ) (w : ℕ) : Type 0 where
  pub number : w ≡ answer_word is_found (λ e. 0) (looked_up handle i path (length before))
  pub buffer : after ≡ left (lookup_into handle i path before) before

module _ (handle : List ℕ) (i : ℕ) (path out : List ℕ) where
  tells :
      {due : Answer Entry} {after : List ℕ} {w : ℕ} → looked_up handle i path (length out) ≡ due →
      w ≡ answer_word is_found (λ e. 0) (looked_up handle i path (length out)) →
      after ≡ left (and_then due (λ e. accepted (entry_or out e))) out → Tells handle i path out after w
  unfolding lookup_into
  tells d n b = record { number = n; buffer = rw d b }

  pub not_32 : {w : ℕ} → (length out ≡ 32 → ⊥) → w ≡ word 2 0 0 → Tells handle i path out out w
  unfolding looked_up in_order
  not_32 h e = tells {due = refused 2 0 0} (rw (ne_eqb (length out) 32 h)) (rw (ne_eqb (length out) 32 h) e) refl

  module _ (h : length out ≡ 32) {r : Result (Option (List ℕ)) Refusal} (g : answer r ≡ lookup handle i path) where
    looked : {o : Result (Option (List ℕ)) Refusal} → r ≡ o → looked_up handle i path (length out) ≡ answer o
    unfolding looked_up in_order
    looked e = rw (eq-eqb (length out) 32 h) (sym g ∙ ap answer e)

    pub is_found_means :
        {found after : List ℕ} {w : ℕ} → r ≡ Ok (Some found) → length found ≡ 32 → w ≡ word 0 1 0 →
        after ≡ take (length found) found ++ drop (length found) out → Tells handle i path out after w
    is_found_means {found} e l n a =
        tells (looked e) (accepted_word is_found (λ e. 0) (looked e) n)
        (a ∙ rw (take-length found, drop_of_length-le out {i = length found} (omega arith), append-nil))

    pub is_absent : {w : ℕ} → r ≡ Ok None → w ≡ word 0 0 0 → Tells handle i path out out w
    is_absent e n = tells (looked e) (accepted_word is_found (λ e. 0) (looked e) n) refl

    pub is_refused : {q : Refusal} {w : ℕ} → r ≡ Err q → w ≡ plain_word {A = Unit} (refusal q) → Tells handle i path out out w
    is_refused {q} e n =
        tells (looked e) (refused_word is_found (λ e. 0) q (looked e) n)
        (sym (ap (λ (x : Answer (List ℕ)). left x out) (ends q (λ e. accepted (entry_or out e))) ∙ keeps q out))
