-- The lookup as 01 has it, before request c): no bound is carried. And what the request changes: an answer stays as it was, or it is now 3 at a
-- child. So what is accepted was accepted before, with the same answer.
use Rattle.std.specs.Prelude.{ℕ, zero, suc, ◌<◌, List, [], ◌∷◌, ◌⊎◌, ◌≡◌}
use Rattle.layout.specs.Bytes.{part, parts}
use Rattle.layout.specs.Strings.{same}
use Rattle.refusal.specs.Answer.{Answer, refused}
use Rattle.refusal.specs.Order.{unless, in_order}
use Rattle.sha256.specs.Sha256.{sha256}
use Rattle.itable.specs.Block.{size, to_root, to_child, well_formed}
use Rattle.itable.specs.declared.Link.{Link}
use Rattle.itable.specs.Lookup.{Entry, answer_at, path_steps, lookup}

abbrev pub unbounded : Link → Link
unbounded k = record { due = k.due; first = k.first; bound = 0; hash = k.hash }

unfoldable pub consult_before : List ℕ → ℕ → ℕ → ℕ → Link → Answer Entry
consult_before path i zero d k = refused 9 d 0
consult_before path i (suc left) d k =
    in_order
    (unless (same (sha256 (part size path d)) k.hash) 8 d 0 ∷ unless (well_formed k (part size path d)) 3 d 0 ∷ [])
    (answer_at (part size path d) i left (suc d) (λ j. consult_before path i left (suc d) (unbounded (to_child k (part size path d) j))))

unfoldable pub lookup_before : List ℕ → ℕ → List ℕ → Answer Entry
lookup_before handle i path = in_order (path_steps handle path) (consult_before path i (parts size path) 0 (to_root handle))

-- The answer is the other one, or 3 at a child.
abbrev pub OrThree : Answer Entry → Answer Entry → Type 0
OrThree now before = (now ≡ before) ⊎ ((d : ℕ) × (0 < d) × (now ≡ refused 3 d 0))

abbrev pub DiffersByThree : Type 0
DiffersByThree = (handle : List ℕ) (i : ℕ) (path : List ℕ) → OrThree (lookup handle i path) (lookup_before handle i path)
