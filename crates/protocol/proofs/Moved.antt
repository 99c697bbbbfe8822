-- The file of what was remembered is formed exactly if that is remembered rightly, and holds just it; it is never pending.
use Prim.Native.Nat.{ℕ}
use mathlib.Core.Bool.{Bool, true, false, not, ◌&&◌}
use mathlib.Core.List.{List, [], ◌∷◌}
use mathlib.Core.Logic.{◌⊎◌, ⊎_elim}
use mathlib.Core.Path.{◌≡◌, refl, sym, ap, ◌∙◌}
use native.Mathlib.Omega.{arith}
use lib.ListN.{length}
use borrow.Author.Tests.{eq-eqb, ne_eqb}
use Rattle.search.specs.Search.{find, every}
use Rattle.search.proofs.Bool.{bool_cases}
use Rattle.layout.specs.Strings.{zeros}
use Rattle.refusal.specs.Answer.{Answer, refused}
use Rattle.refusal.specs.Order.{in_order}
use Rattle.protocol.specs.Version.{size}
use Rattle.protocol.specs.Check.{remembers, current, size_steps, form_steps}
use Rattle.protocol.specs.Create.{length_steps, count_steps, create}
use Rattle.protocol.specs.MemoryFile.{file_size, state, held, formed, file_of, given_steps, sends_again, check_file, create_file}
use Rattle.protocol.specs.Meaning.{Remembered}
use Rattle.protocol.specs.MemoryMeaning.{Formed}
use Rattle.protocol.specs.Moved.{Moved}
use Rattle.protocol.proofs.Conditions.{remembers_means}
use Rattle.protocol.proofs.FileForm.{formed_means}
use Rattle.protocol.proofs.FileCalls.{sizes_alike, lengths_alike, as_steps, check_of_file, create_of_file}

pub of_length : (old : List ℕ) → (length old ≡ 0) ⊎ (length old ≡ size) → length (file_of old) ≡ file_size
unfolding file_of
of_length [] h = refl
of_length (b ∷ old) h = ⊎_elim (λ e. absurd (omega arith)) (λ e. omega arith) h

pub of_holds : (old : List ℕ) → held (file_of old) ≡ old
unfolding file_of held
of_holds [] = refl
of_holds (b ∷ old) = refl

pub of_formed : (N u : ℕ) (old : List ℕ) → formed N u (file_of old) ≡ remembers N u old
unfolding file_of formed remembers zeros every find
of_formed N u [] = refl
of_formed N u (b ∷ old) = rw (ne_eqb (length (b ∷ old)) 0 (λ e. omega arith))

-- Moved over, what is remembered rightly is a formed file.
pub moved_formed :
    (N u : ℕ) (old : List ℕ) → (length old ≡ 0) ⊎ (length old ≡ size) → Remembered N u old →
    (length (file_of old) ≡ file_size) × Formed N u (file_of old)
moved_formed N u old l w = (of_length old l, (formed_means N u (file_of old)).0 (of_formed N u old ∙ (remembers_means N u old).1 w))

pub of_not_pending : (old : List ℕ) → state (file_of old) ≡ 1 → ⊥
unfolding file_of
of_not_pending [] e = omega arith
of_not_pending (b ∷ old) e = omega arith

and_false : (a : Bool) → (a && false) ≡ false
and_false true = refl
and_false false = refl

-- Where a file is not pending, nothing is sent again.
pub sends_nothing : (u : ℕ) (f list : List ℕ) → (state f ≡ 1 → ⊥) → sends_again u f list ≡ false
unfolding sends_again
sends_nothing u f list n = rw (ne_eqb (state f) 1 n) (and_false (not (current u (held f) list)))

-- A file that is not formed is refused with 3.
given_stops :
    {A : Type 0} (N u : ℕ) (f : List ℕ) (a : Answer A) → length f ≡ file_size → formed N u f ≡ false →
    in_order (given_steps N u f) a ≡ refused 3 16 0
unfolding given_steps in_order
given_stops N u f a l t = rw (eq-eqb (length f) file_size l, t)

forms_stop :
    {A : Type 0} (N u : ℕ) (mem list marks : List ℕ) (a : Answer A) → remembers N u mem ≡ false →
    in_order (form_steps N u mem list marks) a ≡ refused 3 16 0
unfolding form_steps in_order
forms_stop N u mem list marks a t = rw t

counts_stop :
    {A : Type 0} (N u : ℕ) (mem counts : List ℕ) (a : Answer A) → remembers N u mem ≡ false →
    in_order (count_steps N u mem counts) a ≡ refused 3 16 0
unfolding count_steps in_order
counts_stop N u mem counts a t = rw t

pub moved : Moved
unfolding check_file create_file create
moved =
    record {
      check_moved = λ N u old list marks h.
          let f : List ℕ = file_of old in
          ⊎_elim
          (λ t.
          check_of_file N u f list marks (of_length old h) (of_formed N u old ∙ t) (sends_nothing u f list (of_not_pending old)) ∙
          rw (of_holds old))
          (λ t.
          rw (sizes_alike N u old list marks h)
          (ap (in_order (size_steps N u old list marks))
          (given_stops N u f _ (of_length old h) (of_formed N u old ∙ t) ∙ sym (forms_stop N u old list marks _ t)) ∙
          sym (as_steps N u old list marks)))
          (bool_cases (remembers N u old));
      create_moved = λ N u old counts handle room h.
          let f : List ℕ = file_of old in
          ⊎_elim
          (λ t. create_of_file N u f counts handle room (of_length old h) (of_formed N u old ∙ t) ∙ rw (of_holds old))
          (λ t.
          rw (lengths_alike N u old counts handle room h)
          (ap (in_order (length_steps N u old counts handle room))
          (given_stops N u f _ (of_length old h) (of_formed N u old ∙ t) ∙ sym (counts_stop N u old counts _ t))))
          (bool_cases (remembers N u old));
    }
