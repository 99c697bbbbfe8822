-- A call that gives a number and leaves something: both by its answer, refused, or accepted.
use Prim.Native.Nat.{ℕ}
use mathlib.Core.Path.{◌≡◌, sym}
use Rattle.std.specs.Prelude.{Result, Ok, Err}
use Rattle.std.specs.Result.{IsErrAnd}
use Rattle.refusal.specs.Answer.{Answer, accepted, and_then}
use Rattle.refusal.specs.Refusal.{refusal, said}
use Rattle.refusal.specs.Result.{left}
use Rattle.refusal.specs.declared.Refusal.{Refusal}
use Rattle.refusal.proofs.Match.{returned}
use Rattle.refusal.proofs.Numbered.{ends, keeps}

module _ {A B : Type 0} (f : A → ℕ) (g : A → B) (before : B) {x : Answer A} where
  pub done_refused :
      (r : Refusal) → x ≡ refusal r →
      (said (Err r) ≡ and_then x (λ a. accepted (f a))) × (before ≡ left (and_then x (λ a. accepted (g a))) before)
  done_refused r e = (
    rw e (sym (ends r (λ (a : A). accepted (f a)))),
    rw (e, ends r (λ (a : A). accepted (g a))) (sym (keeps r before)),
  )

  -- The same, where `?` hands the refusal on.
  pub done_returned :
      (r : Refusal) (answer : Result ℕ Refusal) → x ≡ refusal r → IsErrAnd answer (λ s. s ≡ r) →
      (said answer ≡ and_then x (λ a. accepted (f a))) × (before ≡ left (and_then x (λ a. accepted (g a))) before)
  done_returned r answer e h = rw (returned h) (done_refused r e)

  pub done_accepted :
      {a : A} {n : ℕ} {after : B} → x ≡ accepted a → n ≡ f a → after ≡ g a →
      (said (Ok n) ≡ and_then x (λ a. accepted (f a))) × (after ≡ left (and_then x (λ a. accepted (g a))) before)
  done_accepted e h k = (rw (e, h), rw (e, k))
