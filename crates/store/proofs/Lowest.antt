-- What the tests of a place and the searches of the lowest one say, in plain words.
use Prim.Native.Nat.{ℕ, ◌<◌}
use mathlib.Core.Bool.{Bool, true, false, not}
use mathlib.Core.List.{List}
use mathlib.Core.Logic.{◌↔◌}
use mathlib.Core.Path.{◌≡◌}
use native.Mathlib.Decide.{dec_lt}
use native.Mathlib.Omega.{arith}
use lib.Dec.{eqb, ltb}
use borrow.Author.Tests.{eqb-true, eqb-false, eq-eqb, ltb-true, lt-ltb, not-true}
use Rattle.search.specs.Search.{find}
use Rattle.search.proofs.Bool.{not_both, both_true}
use Rattle.search.proofs.Search.{Found, found, find_first, find_last, every_at, every_intro, first_failure}
use Rattle.search.proofs.First.{not_holding}
use Rattle.layout.specs.Strings.{same}
use Rattle.layout.proofs.Strings.{same_true, same_refl}
use Rattle.sha256.specs.Sha256.{sha256}
use Rattle.store.specs.Place.{place, count, block_in, free, holds, place_of, is_held, first_free}
use Rattle.store.specs.Meaning.{Counted, Free, Holds, Lowest, LowestHolder, NotHeld, Held}

-- A place: whether it is free, and whether it holds a hash.
module _ (x : List ℕ) where
  pub free_means : (free x ≡ true) ↔ Free x
  unfolding free
  free_means = (
    λ e v l. eqb-true (count x v) 0 (every_at (λ w. eqb (count x w) 0) 0 16 e v (omega arith) (omega arith)),
    λ f. every_intro (λ w. eqb (count x w) 0) 0 16 (λ v a l. eq-eqb (count x v) 0 (f v (omega arith))),
  )

  pub not_free : Counted x → Free x → ⊥
  not_free c f = c.2 (f c.0 c.1)

  pub counted_means : (free x ≡ false) ↔ Counted x
  unfolding free
  counted_means =
      let zero : ℕ → Bool = λ w. eqb (count x w) 0 in
      let v : ℕ = find (λ w. not (zero w)) 0 16 in (
        λ e. let f = first_failure zero 0 16 e in (v, omega (arith, f.0), eqb-false (count x v) 0 f.1),
        λ c. not_holding (free x) (λ t. not_free c (free_means.0 t)),
      )

  pub holds_means : (hash : List ℕ) → (holds x hash ≡ true) ↔ Holds x hash
  unfolding holds
  holds_means hash = (
    λ e.
        let b = both_true (not (free x)) (same (sha256 (block_in x)) hash) e in
        record { counted = counted_means.0 (not-true (free x) b.0); hashed = same_true (sha256 (block_in x)) hash b.1 },
    λ w. rw (counted_means.1 w.counted, w.hashed) (same_refl hash),
  )

-- The lowest of the 64 places, by a test that decides P.
module _ {P : ℕ → Type 0} (t : ℕ → Bool) (m : (p : ℕ) → (t p ≡ true) ↔ P p) where
  pub lowest_found : find t 0 64 < 64 → Lowest P (find t 0 64)
  lowest_found l =
      let f : Found t 0 64 (find t 0 64) = found t 0 64 in
      record {
        within = l;
        here = (m (find t 0 64)).0 (f.hit (omega arith));
        none_below = λ q k w. not_both ((m q).1 w) (f.before q (omega arith) k);
      }

  pub lowest_at : {p : ℕ} → Lowest P p → find t 0 64 ≡ p
  lowest_at {p} w =
      find_first t 64 p w.within (λ j a l. not_holding (t j) (λ e. w.none_below j l ((m j).0 e))) ((m p).1 w.here)

  pub none_found : (find t 0 64 < 64 → ⊥) → (p : ℕ) → p < 64 → P p → ⊥
  none_found n p l w =
      let f : Found t 0 64 (find t 0 64) = found t 0 64 in not_both ((m p).1 w) (f.before p (omega arith) (omega arith))

  pub none_at : ((p : ℕ) → p < 64 → P p → ⊥) → find t 0 64 ≡ 64
  none_at n = find_last t 64 (λ p a l. not_holding (t p) (λ e. n p l ((m p).0 e)))

  -- The search finds one exactly where there is one.
  pub some_found : (ltb (find t 0 64) 64 ≡ true) ↔ ((p : ℕ) × (p < 64) × P p)
  some_found = (
    λ e. let w = lowest_found (ltb-true (find t 0 64) 64 e) in (find t 0 64, w.within, w.here),
    λ w.
        elim (dec_lt (find t 0 64) 64) [
          | yes l ↦ lt-ltb (find t 0 64) 64 l
          | no n ↦ absurd (none_found n w.0 w.1 w.2)
        ],
  )

-- The lowest holder of a hash, and the lowest free place.
module _ (s hash : List ℕ) where
  pub holder_found : place_of s hash < 64 → LowestHolder s hash (place_of s hash)
  unfolding place_of
  holder_found = lowest_found (λ p. holds (place s p) hash) (λ p. holds_means (place s p) hash)

  pub holder_at : {p : ℕ} → LowestHolder s hash p → place_of s hash ≡ p
  unfolding place_of
  holder_at = lowest_at (λ p. holds (place s p) hash) (λ p. holds_means (place s p) hash)

  pub not_found : (place_of s hash < 64 → ⊥) → NotHeld s hash
  unfolding place_of
  not_found = none_found (λ p. holds (place s p) hash) (λ p. holds_means (place s p) hash)

  pub no_holder : NotHeld s hash → place_of s hash ≡ 64
  unfolding place_of
  no_holder = none_at (λ p. holds (place s p) hash) (λ p. holds_means (place s p) hash)

  pub held_means : (is_held s hash ≡ true) ↔ Held s hash
  unfolding place_of
  held_means = some_found (λ p. holds (place s p) hash) (λ p. holds_means (place s p) hash)

  pub the_holder : Held s hash → LowestHolder s hash (place_of s hash)
  the_holder w = holder_found (ltb-true (place_of s hash) 64 (held_means.1 w))

module _ (s : List ℕ) where
  pub free_found : first_free s < 64 → Lowest (λ p. Free (place s p)) (first_free s)
  unfolding first_free
  free_found = lowest_found (λ p. free (place s p)) (λ p. free_means (place s p))

  pub free_at : {p : ℕ} → Lowest (λ p. Free (place s p)) p → first_free s ≡ p
  unfolding first_free
  free_at = lowest_at (λ p. free (place s p)) (λ p. free_means (place s p))

  pub some_free : (ltb (first_free s) 64 ≡ true) ↔ ((p : ℕ) × (p < 64) × Free (place s p))
  unfolding first_free
  some_free = some_found (λ p. free (place s p)) (λ p. free_means (place s p))
