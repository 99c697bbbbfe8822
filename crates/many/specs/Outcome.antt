-- What the answer of many lookups in code stands for.
use Rattle.std.specs.Prelude.{ℕ, List, Result, Ok, Err}
use Rattle.refusal.specs.Answer.{Answer, accepted}
use Rattle.refusal.specs.Refusal.{refusal}
use Rattle.itable.specs.Many.{at_question}
use Rattle.many.specs.declared.AtQuestion.{AtQuestion}

-- The answer of a call that leaves these bytes in the buffer.
abbrev pub answer_of : List ℕ → Result Unit AtQuestion → Answer (List ℕ)
answer_of out (Ok u) = accepted out
answer_of out (Err e) = at_question e.question (refusal e.refusal)
