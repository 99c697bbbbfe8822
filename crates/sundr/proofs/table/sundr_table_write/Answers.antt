-- The answer's number is that of the writer's answer, and the buffer is as the writer leaves it. There is no loop.
use Prim.Native.Nat.{ℕ}
use mathlib.Core.Path.{ap, ◌∙◌}
use Rattle.refusal.specs.Word.{answer_word}
use Rattle.sundr.proofs.table.sundr_table_write.Goals as goal

pub returns : goal.returns
returns c =
    let w = c.write.ensures in
    record {
      answer = c.answer_word.ensures ∙ ap (answer_word (λ (n : ℕ). n) (λ n. 0)) w.answers;
      buffer = w.leaves;
    }
