-- What `?` hands on, and what a call gives that hands a stage's refusal on.
use mathlib.Core.Path.{◌≡◌, sym}
use Rattle.std.specs.Prelude.{Result, Err}
use Rattle.std.specs.Result.{IsErrAnd}
use Rattle.std.proofs.lemmas.Result.{err_from_is_err_and}
use Rattle.refusal.specs.Answer.{Answer}
use Rattle.refusal.specs.Refusal.{refusal}
use Rattle.refusal.specs.Result.{Gives}
use Rattle.refusal.specs.declared.Refusal.{Refusal}
use Rattle.refusal.proofs.Numbered.{keeps}

-- The call gives the very refusal that the stage gave.
pub returned : {T : Type 0} {x : Result T Refusal} {r : Refusal} → IsErrAnd x (λ e. e ≡ r) → x ≡ Err r
returned {x} h = let p = err_from_is_err_and x h in rw (p.1, p.2)

-- A refusal that is due, handed on with nothing altered.
pub gives_refused : {A : Type 0} {due : Answer A} {a : A} {c : Result Unit Refusal} {r : Refusal} → due ≡ refusal r → c ≡ Err r → Gives due a a c
gives_refused {a = a} {r = r} d e = record { answers = rw e (sym d); leaves = rw d (sym (keeps r a)) }
