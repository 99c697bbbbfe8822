-- What a `match` arm knows is which variant the choice is; the part that goes with it says what its length is, and the number is the law's. There is
-- no loop.
use mathlib.Core.Path.{sym, ap, ◌∙◌}
use Rattle.cache.specs.Choice.{answer_of}
use Rattle.sundr.specs.Choose.{part_number, part_length}
use Rattle.refusal.proofs.Words.{accepted_word, refused_word}
use Rattle.sundr.proofs.choose.sundr_block_choose.Goals as goal

pub returns-in-Ok : goal.returns-in-Ok
returns-in-Ok c =
    let a = c.args in
    accepted_word part_number (part_length a.reply.now a.cached.now) (sym c.choose-c.ensures ∙ ap answer_of c.in-Ok.is)
    (rw (c.number.ensures, c.part-part.ensures.bytes, c.in-Ok.is) at c.word.ensures)

pub returns-in-Err : goal.returns-in-Err
returns-in-Err c =
    let a = c.args in
    refused_word part_number (part_length a.reply.now a.cached.now) c.in-Err.r
    (sym c.choose-c.ensures ∙ ap answer_of c.in-Err.is) c.refusal_word.ensures
