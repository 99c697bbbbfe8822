-- The answer's number is that of the call's answer, and the buffer is as the call leaves it. There is no loop.
use mathlib.Core.Path.{ap, ◌∙◌}
use Rattle.refusal.specs.Word.{plain_word}
use Rattle.sundr.proofs.questions.sundr_lookup_many.Goals as goal

pub returns : goal.returns
returns c =
    let l = c.lookup.ensures in
    record {
      answer = c.outcome_word.ensures _ ∙ ap plain_word l.answers;
      buffer = l.leaves;
    }
