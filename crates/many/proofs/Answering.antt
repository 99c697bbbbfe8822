-- The whole call: it is refused by a length, or by a question, and then keeps the buffer; or the entries fill it.
use Prim.Native.Nat.{ℕ}
use mathlib.Core.List.{List}
use mathlib.Core.Path.{◌≡◌, sym, ap, ◌∙◌}
use lib.ListN.{length}
use Rattle.std.specs.Prelude.{Result, Ok, Err}
use Rattle.std.specs.Result.{IsErrAnd}
use Rattle.std.proofs.lemmas.Result.{err_from_is_err_and}
use Rattle.refusal.specs.Answer.{Answer}
use Rattle.refusal.specs.Result.{left}
use Rattle.refusal.specs.declared.Refusal.TheVariants.{Length}
use Rattle.refusal.proofs.Numbered.{numbered}
use Rattle.itable.specs.Many.{at_question, many}
use Rattle.itable.specs.ManyMeaning.{ManySizes}
use Rattle.itable.specs.Internal.Many.{entries_from}
use Rattle.itable.proofs.ManySizes.{sized, unsized}
use Rattle.many.specs.Outcome.{answer_of}
use Rattle.many.specs.Internal.Judged.{entry_to, Judged}
use Rattle.many.specs.declared.AtQuestion.{AtQuestion}

-- A refusal keeps the buffer, and does not depend on it.
kept : (before out : List ℕ) (e : AtQuestion) → before ≡ left (answer_of out (Err e)) before
kept before out e = sym (ap (λ (a : Answer (List ℕ)). left (at_question e.question a) before) ((numbered e.refusal).3 (List ℕ)))

module _ (handle numbers counts paths before : List ℕ) where
  -- The call answers r, and the buffer is `after`.
  abbrev Told : List ℕ → Result Unit AtQuestion → Type 0
  Told after r =
      (answer_of after r ≡ many handle numbers counts paths (length before)) ×
      (after ≡ left (many handle numbers counts paths (length before)) before)

  pub wrong_length : (ManySizes handle numbers counts paths (length before) → ⊥) → Told before (Err (record { question = 0; refusal = Length 0 }))
  wrong_length f = let e = unsized handle numbers counts paths (length before) f in (sym e, rw e)

  module _ (s : ManySizes handle numbers counts paths (length before)) {r : Result Unit AtQuestion} (j : Judged handle numbers counts paths r) where
    abbrev entries : List ℕ
    entries = entries_from (entry_to numbers counts paths) 0 (length numbers)

    due : answer_of entries r ≡ many handle numbers counts paths (length before)
    due = j.answers ∙ sym (sized handle numbers counts paths (length before) s)

    pub handed_on : {e : AtQuestion} → r ≡ Err e → (x : Result Unit AtQuestion) → IsErrAnd x (λ f. f ≡ e) → Told before x
    handed_on {e} q x w =
        let p = err_from_is_err_and x w in
        let d : answer_of entries (Err e) ≡ many handle numbers counts paths (length before) = rw q at due in
        (rw (p.1, p.2) d, kept before entries e ∙ ap (λ (a : Answer (List ℕ)). left a before) d)

    pub answered : {after : List ℕ} {u : Unit {0}} → r ≡ Ok u → after ≡ entries → Told after (Ok tt)
    answered q w =
        let d = rw q at due in (rw w d, rw (← d) w)
