-- The check and the making step on a memory file are those on what it holds, as long as the file is formed and nothing is to be sent again.
use Prim.Native.Nat.{ℕ}
use mathlib.Core.Bool.{true, false}
use mathlib.Core.List.{List, []}
use mathlib.Core.Logic.{◌⊎◌, ⊎_elim}
use mathlib.Core.Path.{◌≡◌, sym, ap, ◌∙◌}
use native.Mathlib.Omega.{arith}
use lib.Dec.{eqb}
use lib.ListN.{length}
use borrow.Author.Tests.{eqb-true, eq-eqb}
use Rattle.search.proofs.Bool.{bool_cases}
use Rattle.refusal.specs.Answer.{Answer, accepted, refused}
use Rattle.refusal.specs.Order.{in_order}
use Rattle.refusal.proofs.Order.{unless_passed, passed, then_in}
use Rattle.protocol.specs.Version.{size}
use Rattle.protocol.specs.Check.{size_steps, form_steps, order_steps, next_counts, check}
use Rattle.protocol.specs.Create.{length_steps, create}
use Rattle.protocol.specs.MemoryFile.{file_size, held, formed, given_steps, sends_again, Verdict, next, again, check_file, create_file}
use Rattle.protocol.specs.Moved.{as_verdict}
use Rattle.protocol.proofs.Conditions.{none_or_one}
use Rattle.protocol.proofs.FileForm.{held_length}

-- A memory of a good length is not refused for it.
pub sizes_alike :
    (N u : ℕ) (mem list marks : List ℕ) → (length mem ≡ 0) ⊎ (length mem ≡ size) → size_steps N u [] list marks ≡ size_steps N u mem list marks
unfolding size_steps
sizes_alike N u mem list marks h = rw ((none_or_one mem).1 h)

pub lengths_alike :
    (N u : ℕ) (mem counts handle : List ℕ) (room : ℕ) → (length mem ≡ 0) ⊎ (length mem ≡ size) →
    length_steps N u [] counts handle room ≡ length_steps N u mem counts handle room
unfolding length_steps
lengths_alike N u mem counts handle room h = rw ((none_or_one mem).1 h)

-- A check's answer, read as a verdict, in the steps of the check.
pub as_steps :
    (N u : ℕ) (mem list marks : List ℕ) →
    as_verdict (check N u mem list marks) ≡
    in_order (size_steps N u mem list marks)
    (in_order (form_steps N u mem list marks) (in_order (order_steps u mem list) (accepted (next (next_counts u mem list)))))
unfolding check
as_steps N u mem list marks =
    let last : Answer (List ℕ) = accepted (next_counts u mem list) in
    let reads : List ℕ → Answer Verdict = λ counts. accepted (next counts) in
    then_in (size_steps N u mem list marks) (in_order (form_steps N u mem list marks) (in_order (order_steps u mem list) last)) reads ∙
    ap (in_order (size_steps N u mem list marks))
    (then_in (form_steps N u mem list marks) (in_order (order_steps u mem list) last) reads ∙
    ap (in_order (form_steps N u mem list marks)) (then_in (order_steps u mem list) last reads))

-- A verdict with counts is read of an answer with these counts, a refusal of this refusal, and "send again" of none.
pub accepted_counts : (a : Answer (List ℕ)) (c : List ℕ) → as_verdict a ≡ accepted (next c) → a ≡ accepted c
accepted_counts (accepted d) c e = cc
accepted_counts (refused n p q) c e = let z : ◌≡◌ {A = ℕ} 0 1 = cc in absurd (omega arith)

pub refusal_of : (a : Answer (List ℕ)) (n p q : ℕ) → as_verdict a ≡ refused n p q → a ≡ refused n p q
refusal_of (accepted c) n p q e = let z : ◌≡◌ {A = ℕ} 0 1 = cc in absurd (omega arith)
refusal_of (refused m i j) n p q e = cc

pub not_again : (a : Answer (List ℕ)) (x : List ℕ) → as_verdict a ≡ accepted (again x) → ⊥
not_again (accepted c) x e = let z : ◌≡◌ {A = ℕ} 0 1 = cc in omega arith
not_again (refused n p q) x e = let z : ◌≡◌ {A = ℕ} 0 1 = cc in omega arith

module _ (N u : ℕ) (f : List ℕ) where
  -- A file that is asked for its length and form, and passes.
  pub given_passes : {A : Type 0} (a : Answer A) → length f ≡ file_size → formed N u f ≡ true → in_order (given_steps N u f) a ≡ a
  unfolding given_steps in_order
  given_passes a l t = rw (eq-eqb (length f) file_size l, t)

  pub check_of_file :
      (list marks : List ℕ) → length f ≡ file_size → formed N u f ≡ true → sends_again u f list ≡ false →
      check_file N u f list marks ≡ as_verdict (check N u (held f) list marks)
  unfolding check_file
  check_of_file list marks l t s =
      rw (s, sizes_alike N u (held f) list marks (held_length f l))
      (ap (in_order (size_steps N u (held f) list marks)) (given_passes _ l t) ∙ sym (as_steps N u (held f) list marks))

  pub create_of_file :
      (counts handle : List ℕ) (room : ℕ) → length f ≡ file_size → formed N u f ≡ true →
      create_file N u f counts handle room ≡ create N u (held f) counts handle room
  unfolding create_file create
  create_of_file counts handle room l t =
      rw (lengths_alike N u (held f) counts handle room (held_length f l))
      (ap (in_order (length_steps N u (held f) counts handle room)) (given_passes _ l t))

  -- A call that is not refused was given a formed file.
  pub given_passed :
      {A : Type 0} {a : Answer A} {x : A} → in_order (given_steps N u f) a ≡ accepted x →
      (length f ≡ file_size) × (formed N u f ≡ true) × (a ≡ accepted x)
  unfolding given_steps
  given_passed e =
      let p = passed (given_steps N u f) e in (
        eqb-true (length f) file_size (unless_passed (eqb (length f) file_size) 2 0 0 p.0.0),
        unless_passed (formed N u f) 3 16 0 p.0.1.0,
        p.1,
      )

  -- Counts that a check on a file gives are those of the check on what it holds, and so is a structure that is made.
  pub gives_held :
      (list marks c : List ℕ) → check_file N u f list marks ≡ accepted (next c) → check N u (held f) list marks ≡ accepted c
  unfolding check_file
  gives_held list marks c e =
      let s = passed (size_steps N u [] list marks) e in
      let g = given_passed s.1 in
      let r = passed (form_steps N u (held f) list marks) g.2 in
      ⊎_elim (λ t. let a = rw t at r.1 in let z : ◌≡◌ {A = ℕ} 0 1 = cc in absurd (omega arith))
      (λ n. accepted_counts (check N u (held f) list marks) c (sym (check_of_file list marks g.0 g.1 n) ∙ e))
      (bool_cases (sends_again u f list))

  pub makes_held :
      (counts handle : List ℕ) (room : ℕ) (x : List ℕ) → create_file N u f counts handle room ≡ accepted x →
      create N u (held f) counts handle room ≡ accepted x
  unfolding create_file
  makes_held counts handle room x e =
      let s = passed (length_steps N u [] counts handle room) e in
      let g = given_passed s.1 in
      sym (create_of_file counts handle room g.0 g.1) ∙ e
