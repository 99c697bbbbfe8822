-- The first result is the number that the layer gives, and the store is as the layer leaves it.
use Rattle.store.specs.Calls.{Unreferenced, unreference}
use Rattle.refusal.proofs.Words.{told_by}
use Rattle.sundr.proofs.block_store.sundr_unreference.Goals as goal

pub returns : goal.returns
returns c =
    let a = c.args in
    let g = c.unreference.ensures in
    record {
      answer = told_by (λ (t : Unreferenced). t.took) (unreference a.store.now a.user a.hash.now) g.answers c.answer_word.ensures;
      buffer = g.leaves;
    }
