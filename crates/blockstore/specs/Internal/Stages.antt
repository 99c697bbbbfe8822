-- The stages of the calls in code: how each begins, and the two ways to store.
use Rattle.std.specs.Prelude.{ℕ, ◌+◌, Bool, not, List, [], ◌∷◌, ltb, eqb}
use Rattle.refusal.specs.Answer.{Answer, accepted}
use Rattle.refusal.specs.Order.{Step, unless, in_order}
use Rattle.store.specs.Place.{place, count, first_free, with_block, with_place, recount}
use Rattle.store.specs.Calls.{user_step, store_step, places_step}

-- The user, the store's length, the other length of the call, which fits or does not, and each place's length. Who retrieves is nobody, and
-- passes as user 0.
unfoldable pub admit_steps : List ℕ → ℕ → Bool → List Step
admit_steps s u fits = user_step u ∷ store_step s ∷ unless fits 2 0 0 ∷ places_step s ∷ []

-- One more of user u at place p.
unfoldable pub counted_once : List ℕ → ℕ → ℕ → Answer (List ℕ)
counted_once s p u =
    in_order (unless (not (eqb (count (place s p) u) 65535)) 14 0 0 ∷ []) (accepted (recount s p u (count (place s p) u + 1)))

-- The block in the lowest free place.
unfoldable pub filled_free : List ℕ → ℕ → List ℕ → Answer (List ℕ)
filled_free s u b =
    in_order (unless (ltb (first_free s) 64) 13 0 0 ∷ [])
    (accepted (with_place s (first_free s) (with_block (place s (first_free s)) u b)))
