-- One question's path is all of the bytes, so its lookup is the single one; where the lengths do not fit, the single lookup's 2 is for the same ones.
use Prim.Native.Nat.{ℕ, ◌*◌}
use mathlib.Core.List.{List, [], ◌∷◌, append-nil}
use mathlib.Core.Logic.{⊎_elim}
use mathlib.Core.Path.{◌≡◌, refl, ◌∙◌}
use native.Mathlib.Omega.{arith}
use lib.Seq.{take_all}
use Rattle.layout.specs.Bytes.{parts}
use Rattle.refusal.specs.Answer.{accepted, and_then}
use Rattle.itable.specs.Block.{size}
use Rattle.itable.specs.LookupMeaning.{lengths}
use Rattle.itable.specs.Lookup.{lookup}
use Rattle.itable.specs.Many.{total, at_question, entry_size, entry_bytes, answers_from}
use Rattle.itable.specs.ManyMeaning.{asked, OneQuestion}
use Rattle.itable.proofs.LookupMeans.{lookup_means}
use Rattle.itable.proofs.ManySizes.{sizes_stage, sized, unsized}

as_lookup :
    (handle : List ℕ) (i : ℕ) (path : List ℕ) → asked handle i path ≡ and_then (at_question 0 (lookup handle i path)) (λ e. accepted (entry_bytes e))
unfolding total answers_from
as_lookup handle i path =
    let counts : List ℕ = parts size path ∷ [] in
    ⊎_elim
    (λ s.
    sized handle (i ∷ []) counts path entry_size s ∙
    simp (take_all (size * parts size path) path (omega (arith, s.filled)), append-nil))
    (λ w.
    let f = w.3.0 in
    unsized handle (i ∷ []) counts path entry_size f ∙
    rw (((lookup_means handle i path).1 2 0 0).1
    (lengths
    (λ v.
    f (record { handle_long = v.handle_long; count_each = refl; at_most = omega arith; filled = omega (arith, v.whole); room_due = refl })))))
    (sizes_stage handle (i ∷ []) counts path entry_size).cases

pub one_question : OneQuestion
one_question =
    record {
      is_found_means = λ handle i path h e. as_lookup handle i path ∙ rw e;
      is_absent = λ handle i path e. as_lookup handle i path ∙ rw e;
      is_refused = λ handle i path n p q e. as_lookup handle i path ∙ rw e;
    }
