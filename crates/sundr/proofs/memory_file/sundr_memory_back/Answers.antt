-- The first result is the number that the layer gives, and the buffer is as the layer leaves it.
use lib.ListN.{length}
use Rattle.protocol.specs.MemoryFile.{back}
use Rattle.refusal.proofs.Words.{told_by}
use Rattle.sundr.proofs.memory_file.sundr_memory_back.Goals as goal

pub returns : goal.returns
returns c =
    let a = c.args in
    let g = c.back.ensures in
    record {
      answer = told_by length (back a.users a.user a.file.now (length a.old.now)) g.answers c.answer_word.ensures;
      buffer = g.leaves;
    }
