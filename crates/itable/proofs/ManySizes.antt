-- The tests of the whole call decide whether the lengths fit: where they do, the questions answer, and where they do not, it is 2.
use Prim.Native.Nat.{ℕ, ◌*◌}
use mathlib.Core.List.{List, [], ◌∷◌}
use mathlib.Core.Path.{◌≡◌, refl}
use lib.Dec.{leb, eqb}
use lib.ListN.{length}
use borrow.Author.Tests.{leb-true, eqb-true, le-leb, eq-eqb}
use Rattle.refusal.specs.Answer.{Answer, refused}
use Rattle.refusal.proofs.Means.{Stage, Unless, tests_mean, goes_on_to, ends}
use Rattle.itable.specs.Block.{size}
use Rattle.itable.specs.Many.{total, single, entry_size, answers_from, many_steps, many}
use Rattle.itable.specs.ManyMeaning.{ManySizes}

module _ (handle numbers counts paths : List ℕ) (room : ℕ) where
  abbrev Fit : Type 0
  Fit = ManySizes handle numbers counts paths room

  pub sizes_stage : Stage (many_steps handle numbers counts paths room) Fit (Unless Fit 2 0 0)
  unfolding many_steps
  sizes_stage =
      let questions : ℕ = length numbers in
      tests_mean
      (eqb (length handle) 32 ∷
      eqb questions (length counts) ∷
      leb questions 64 ∷ eqb (size * total counts) (length paths) ∷ eqb room (entry_size * questions) ∷ [])
      2 0 0
      (λ t.
      record {
        handle_long = eqb-true (length handle) 32 t.0;
        count_each = eqb-true questions (length counts) t.1.0;
        at_most = leb-true questions 64 t.1.1.0;
        filled = eqb-true (size * total counts) (length paths) t.1.1.1.0;
        room_due = eqb-true room (entry_size * questions) t.1.1.1.1.0;
      })
      (λ w. (
        eq-eqb (length handle) 32 w.handle_long,
        (
          eq-eqb questions (length counts) w.count_each,
          (
            le-leb questions 64 w.at_most,
            (eq-eqb (size * total counts) (length paths) w.filled, (eq-eqb room (entry_size * questions) w.room_due, tt)),
          ),
        ),
      ))

  abbrev answers : Answer (List ℕ)
  answers = answers_from (single handle numbers counts paths) 0 (length numbers)

  pub sized : Fit → many handle numbers counts paths room ≡ answers
  unfolding many
  sized = goes_on_to (many_steps handle numbers counts paths room) sizes_stage answers

  pub unsized : (Fit → ⊥) → many handle numbers counts paths room ≡ refused 2 0 0
  unfolding many
  unsized f = ends (many_steps handle numbers counts paths room) sizes_stage answers (f, refl, refl, refl)
