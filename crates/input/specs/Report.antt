-- What the desk program says of its input.
use Rattle.std.specs.Prelude.{ℕ, cond, List, ◌≡◌, Option, None, Some, Result}
use Rattle.layout.specs.Bytes.{values}
use Rattle.protocol.specs.Version.{size, count}
use Rattle.protocol.specs.Check.{check}
use Rattle.protocol.specs.Create.{create}
use Rattle.refusal.specs.Answer.{Answer, accepted, and_then}
use Rattle.refusal.specs.Refusal.{said}
use Rattle.refusal.specs.declared.Refusal.{Refusal}
use Rattle.input.specs.Form.{users, user, memory, list, marks, handle, formed}
use Rattle.input.specs.declared.Report.{Report}

-- The input is of another form, or the check of its parts and the making step answer.
pub data Judgement : Type 0 where
  other_form : Judgement
  answer : Answer (List ℕ) → Judgement

-- The sixteen counts of a version structure.
abbrev pub sixteen : List ℕ → List ℕ
sixteen new = values (count new) 0 16

-- The answer of the check, and then of the making step with the counts that it gave; an accepted structure is told by its counts.
unfoldable pub answered : ℕ → ℕ → List ℕ → List ℕ → List ℕ → List ℕ → Judgement
answered N u mem list marks handle =
    answer
    (and_then (check N u mem list marks)
    (λ counts. and_then (create N u mem counts handle size) (λ new. accepted (sixteen new))))

-- "Input of another form, or over 1,717 bytes, prints the line `input` only. Otherwise .. `accept` with the new counts of users 0 to
-- N-1, or `refuse` with number and both places." The counts are those of all sixteen users, of which the program prints the first N.
unfoldable pub judgement : List ℕ → Judgement
judgement input =
    cond (formed input)
    (answered (users input) (user input) (memory input) (list input) (marks input) (handle input))
    other_form

-- The judgement that a report's answer tells: none is that of another form.
abbrev pub told : Option (Result (List ℕ) Refusal) → Judgement
told None = other_form
told (Some judged) = answer (said judged)

-- The report r tells this judgement, and the two numbers of "`desk`, u, `of`, N".
pub record Reports (due : Judgement) (N u : ℕ) (r : Report) : Type 0 where
  pub says : told r.judged ≡ due
  pub users : r.users ≡ N
  pub user : r.user ≡ u
