-- Laws of answers as one number.
use Prim.Native.Nat.{ℕ, ◌/◌, ◌%◌, ◌^◌, ◌<◌}
use mathlib.Core.Path.{◌≡◌, refl, sym, ap, ◌∙◌}
use native.Mathlib.Omega.{arith}
use Rattle.std.specs.Prelude.{Result, Ok, Err}
use Rattle.refusal.specs.Answer.{Answer, accepted, refused, and_then}
use Rattle.refusal.specs.Result.{Gives}
use Rattle.refusal.specs.Refusal.{refusal, checked, said}
use Rattle.refusal.specs.Word.{word, answer_word, plain_word}
use Rattle.refusal.specs.declared.Refusal.{Refusal}
use Rattle.refusal.proofs.Numbered.{numbered}

-- The three parts are read back where they are small enough.
pub words_tell :
    (n p q : ℕ) → n < 256 → p < 2 ^ 24 → q < 2 ^ 32 →
    (word n p q % 256 ≡ n) × (word n p q / 2 ^ 8 % 2 ^ 24 ≡ p) × (word n p q / 2 ^ 32 ≡ q)
words_tell n p q hn hp hq = (omega arith, omega arith, omega arith)

-- A refusal's number does not depend on the result that it refuses.
pub word_refusal : (A : Type 0) {B : Type 0} (r : Refusal) (f g : B → ℕ) → plain_word {A = A} (refusal r) ≡ answer_word {A = B} f g (refusal r)
word_refusal A {B} r f g = let n = numbered r in rw (n.3 A, n.3 B)

word_checked : {A : Type 0} (a : A) (c : Result Unit Refusal) → plain_word (said c) ≡ plain_word (checked a c)
word_checked a (Ok u) = refl
word_checked a (Err r) = word_refusal Unit r (λ b. 0) (λ b. 0)

-- A check's number is that of the call's answer.
pub gives_word :
    {A : Type 0} {due : Answer A} {before after : A} {c : Result Unit Refusal} {w : ℕ} → Gives due before after c → w ≡ plain_word (said c) →
    w ≡ plain_word due
gives_word {after} {c} g e = e ∙ (word_checked after c ∙ ap plain_word g.answers)

-- The number that tells an answer, by what the answer is known to be: one law for each call's answer, whatever its result.
module _ {A : Type 0} (first second : A → ℕ) {answer : Answer A} {w : ℕ} where
  pub accepted_word : {a : A} → answer ≡ accepted a → w ≡ word 0 (first a) (second a) → w ≡ answer_word first second answer
  accepted_word e n = n ∙ sym (ap (answer_word first second) e)

  pub refused_word : (r : Refusal) → answer ≡ refusal r → w ≡ plain_word {A = Unit} (refusal r) → w ≡ answer_word first second answer
  refused_word r e n = n ∙ (word_refusal Unit r first second ∙ sym (ap (answer_word first second) e))

-- The number of an answer whose result is told by one number, from that number's own answer.
pub told_by : {A : Type 0} (f : A → ℕ) (x : Answer A) {y : Answer ℕ} {w : ℕ} → y ≡ and_then x (λ a. accepted (f a)) → w ≡ answer_word (λ n. n) (λ n. 0) y →
    w ≡ answer_word f (λ a. 0) x
told_by f (accepted a) e h = h ∙ ap (answer_word (λ n. n) (λ n. 0)) e
told_by f (refused n p q) e h = h ∙ ap (answer_word (λ n. n) (λ n. 0)) e
