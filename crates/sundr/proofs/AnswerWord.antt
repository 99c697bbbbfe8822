-- The numbers that tell a block's span and a question's refusal.
use Prim.Native.Nat.{ℕ}
use mathlib.Core.Path.{◌≡◌, refl, sym, ◌∙◌}
use Rattle.refusal.specs.Answer.{Answer, refused}
use Rattle.std.specs.Prelude.{Result, Ok, Err}
use Rattle.refusal.specs.Refusal.{refusal, said}
use Rattle.refusal.specs.Word.{word, answer_word, plain_word}
use Rattle.refusal.specs.declared.Refusal.{Refusal}
use Rattle.refusal.proofs.Numbered.{numbered}
use Rattle.refusal.proofs.Words.{word_refusal}
use Rattle.itable.specs.Inode as inode
use Rattle.itable.specs.Many.{at_question}
use Rattle.inode.specs.Spanned.{answer_of}
use Rattle.inode.specs.declared.Span.{Span}

-- A question's refusal, told with the question's index first.
pub question_word :
    {A : Type 0} {answer : Answer A} {w n p s : ℕ} (q : ℕ) (r : Refusal) → answer ≡ at_question q (refusal r) → refusal {A = Unit} r ≡ refused n p s →
    w ≡ word n q p → w ≡ plain_word answer
question_word {A} {answer} {w} {n} {p} {s} q r e t h =
    let m = numbered r in
    let x : ◌≡◌ {A = Answer Unit} (refused m.0 m.1 m.2) (refused n p s) = sym (m.3 Unit) ∙ t in
    let a : m.0 ≡ n = cc in let b : m.1 ≡ p = cc in h ∙ rw (e, m.3 A, a, b)

-- A span in code is told as the definition's.
pub span_word :
    (a : Result Span Refusal) → answer_word (λ (s : Span). s.offset) (λ s. s.size) (said a) ≡ answer_word (λ (s : inode.Span). s.offset) (λ s. s.size) (answer_of a)
span_word (Ok s) = refl
span_word (Err r) = sym (word_refusal Unit r (λ (s : Span). s.offset) (λ s. s.size)) ∙ word_refusal Unit r (λ (s : inode.Span). s.offset) (λ s. s.size)
