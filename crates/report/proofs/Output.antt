-- The lines of a report are those of the input's judgement, and the buffer's length decides whether they are written.
use Prim.Native.Nat.{ℕ, ◌≤◌, ◌<◌}
use mathlib.Core.List.{List, ◌++◌}
use mathlib.Core.Logic.{⊎_elim}
use mathlib.Core.Path.{◌≡◌, ◌∙◌}
use native.Mathlib.Omega.{arith}
use borrow.Author.Tests.{leb-true, le-leb, lt-leb}
use lib.Dec.{leb}
use lib.ListN.{length, take, drop}
use lib.Seq.{take-length}
use Rattle.search.proofs.Bool.{bool_cases}
use Rattle.refusal.specs.Answer.{accepted, refused}
use Rattle.refusal.specs.Order.{in_order}
use Rattle.refusal.specs.Refusal.{refusal}
use Rattle.refusal.specs.Result.{left}
use Rattle.refusal.specs.declared.Refusal.{Refusal}
use Rattle.refusal.proofs.Numbered.{numbered}
use Rattle.input.specs.Form.{users, user}
use Rattle.input.specs.Report.{told, judgement, Reports}
use Rattle.input.specs.declared.Report.{Report}
use Rattle.report.specs.Printed.{lines, printed}
use Rattle.report.specs.Print.{print_steps, printed_given, printing}

-- A refusal's number and positions are the same whatever the call's result would be.
pub same_row :
    (r : Refusal) (n p q : ℕ) → refusal {A = Unit} r ≡ refused n p q → refusal {A = List ℕ} r ≡ refused n p q
same_row r n p q e =
    let w = numbered r in let u = w.3 Unit in let v = w.3 (List ℕ) in cc

pub report_printed :
    (input : List ℕ) (r : Report) → Reports (judgement input) (users input) (user input) r → lines r.users r.user (told r.judged) ≡ printed input
unfolding printed
report_printed input r h = rw (h.says, h.users, h.user)

-- The answer and the buffer's bytes, by the buffer's length: `text` is the output.
module _ (input text out : List ℕ) (p : text ≡ printed input) where
  pub no_room : length out < length text → (refused 12 0 0 ≡ printed_given input (length out)) × (out ≡ left (printing input out) out)
  unfolding printed_given printing print_steps in_order
  no_room h = let f = lt-leb (length (printed input)) (length out) (rw p at h) in (rw f, rw f)

  pub room :
      (after : List ℕ) → length text ≤ length out → after ≡ take (length text) text ++ drop (length text) out →
      (accepted (length text) ≡ printed_given input (length out)) × (after ≡ left (printing input out) out)
  unfolding printed_given printing print_steps in_order
  room after h e =
      let f = le-leb (length (printed input)) (length out) (rw p at h) in
      (rw (p, f), e ∙ rw (p, f, take-length (printed input)))

-- What was written is within the buffer.
pub within : (input : List ℕ) (room n : ℕ) → accepted n ≡ printed_given input room → n ≤ room
unfolding printed_given print_steps in_order
within input room n e =
    ⊎_elim
    (λ t. let q : accepted n ≡ accepted (length (printed input)) = rw t at e in
    let k : n ≡ length (printed input) = cc in
    omega (arith, leb-true (length (printed input)) room t))
    (λ f. let q : accepted n ≡ refused 12 0 0 = rw f at e in let z : ◌≡◌ {A = ℕ} 0 1 = cc in omega arith)
    (bool_cases (leb (length (printed input)) room))
