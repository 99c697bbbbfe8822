-- What a `match` arm knows is which variant the answer is, and the number of each is the law's.
use mathlib.Core.Path.{ap}
use Rattle.refusal.specs.Refusal.{said}
use Rattle.refusal.proofs.Words.{accepted_word, refused_word}
use Rattle.refusal.proofs.answer_word.Goals as goal

pub returns-in-Ok : goal.returns-in-Ok
returns-in-Ok g c =
    let m = g.R.Results in accepted_word m.first m.second (ap said c.in-Ok.is) (rw (ap (λ p. p.0) c.results-first.ensures, ap (λ p. p.1) c.results-first.ensures) at c.word.ensures)

pub returns-in-Err : goal.returns-in-Err
returns-in-Err g c = let m = g.R.Results in refused_word m.first m.second c.in-Err.r (ap said c.in-Err.is) c.refusal_word.ensures
