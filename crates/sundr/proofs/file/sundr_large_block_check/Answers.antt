-- The answer's number is that of the large file's check. There is no loop.
use mathlib.Core.Path.{ap, ◌∙◌}
use Rattle.refusal.specs.Word.{answer_word}
use Rattle.itable.specs.Inode.{Span}
use Rattle.sundr.proofs.AnswerWord.{span_word}
use Rattle.sundr.proofs.file.sundr_large_block_check.Goals as goal

pub returns : goal.returns
returns c = c.answer_word.ensures ∙ span_word c.large_block_check.result ∙ ap (answer_word (λ (a : Span). a.offset) (λ a. a.size)) c.large_block_check.ensures
