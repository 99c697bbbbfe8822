-- The answer's number is that of the layer's answer, and the store is as the layer leaves it.
use Rattle.refusal.proofs.Words.{gives_word}
use Rattle.sundr.proofs.block_store.sundr_store.Goals as goal

pub returns : goal.returns
returns c = let g = c.store.ensures in record {
  answer = gives_word g c.answer_word.ensures;
  buffer = g.leaves;
}
