-- The first result is the number that the layer gives, and the buffer is as the layer leaves it.
use lib.ListN.{length}
use Rattle.store.specs.Calls.{retrieve}
use Rattle.refusal.proofs.Words.{told_by}
use Rattle.sundr.proofs.block_store.sundr_retrieve.Goals as goal

pub returns : goal.returns
returns c =
    let a = c.args in
    let g = c.retrieve.ensures in
    record {
      answer = told_by length (retrieve a.store.now a.hash.now (length a.out.now)) g.answers c.answer_word.ensures;
      buffer = g.leaves;
    }
