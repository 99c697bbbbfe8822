-- The answer's number is that of the layer's answer, and the buffer is as the layer leaves it.
use Rattle.refusal.proofs.Words.{gives_word}
use Rattle.sundr.proofs.making.sundr_memory_create.Goals as goal

pub returns : goal.returns
returns c = let g = c.create.ensures in record {
  answer = gives_word g c.answer_word.ensures;
  buffer = g.leaves;
}
