-- Answers as one number of 64 bits, for callers in C: 0 or the refusal's number in bits 0 to 7, then two small results or the
-- refusal's positions, in bits 8 to 31 and 32 to 63.
use Rattle.std.specs.Prelude.{ℕ, ◌+◌, ◌*◌, ◌%◌, ◌^◌}
use Rattle.refusal.specs.Answer.{Answer, accepted, refused}

abbrev pub word : ℕ → ℕ → ℕ → ℕ
word n p q = n + 256 * (p % 2 ^ 24) + 2 ^ 32 * (q % 2 ^ 32)

-- An answer whose result is told by two numbers.
abbrev pub answer_word : {A : Type 0} → (A → ℕ) → (A → ℕ) → Answer A → ℕ
answer_word first second (accepted a) = word 0 (first a) (second a)
answer_word first second (refused n p q) = word n p q

-- One whose result is not told by numbers.
abbrev pub plain_word : {A : Type 0} → Answer A → ℕ
plain_word = answer_word (λ a. 0) (λ a. 0)
