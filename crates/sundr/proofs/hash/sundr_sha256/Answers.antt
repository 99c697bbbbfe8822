-- The answer's number is that of the layer's answer, and the buffer is as the layer leaves it.
use Rattle.refusal.proofs.Words.{gives_word}
use Rattle.sundr.proofs.hash.sundr_sha256.Goals as goal

pub returns : goal.returns
returns c = let g = c.sha256.ensures in record {
  answer = gives_word g c.answer_word.ensures;
  buffer = g.leaves;
}
