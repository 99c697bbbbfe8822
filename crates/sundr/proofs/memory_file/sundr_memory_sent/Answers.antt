-- The answer's number is that of the layer's answer, and the file is as the layer leaves it.
use Rattle.refusal.proofs.Words.{gives_word}
use Rattle.sundr.proofs.memory_file.sundr_memory_sent.Goals as goal

pub returns : goal.returns
returns c = let g = c.sent.ensures in record {
  answer = gives_word g c.answer_word.ensures;
  buffer = g.leaves;
}
