-- What a `match` arm knows is which variant the answer is, and the number of each is the law's. There is no loop.
use mathlib.Core.Path.{ap}
use Rattle.many.specs.Outcome.{answer_of}
use Rattle.refusal.proofs.Words.{accepted_word}
use Rattle.sundr.proofs.AnswerWord.{question_word}
use Rattle.sundr.proofs.questions.outcome_word.Goals as goal

pub returns-in-Ok : goal.returns-in-Ok
returns-in-Ok c = λ out. accepted_word (λ a. 0) (λ a. 0) (ap (answer_of out) c.in-Ok.is) c.word.ensures

pub returns-in-Err : goal.returns-in-Err
returns-in-Err c = λ out.
    question_word c.in-Err.at.question c.in-Err.at.refusal (ap (answer_of out) c.in-Err.is) c.from-told.ensures c.word-in-Err.ensures
