-- The stages that the calls share: the user, the lengths of store and hash, the places, and whether a hash is held.
use Prim.Native.Nat.{ℕ}
use mathlib.Core.List.{List, [], ◌∷◌}
use mathlib.Core.Logic.{⊎_elim}
use lib.Dec.{leb, eqb}
use lib.ListN.{length}
use borrow.Author.Tests.{leb-true, le-leb, eqb-true, eq-eqb}
use Rattle.search.specs.First.{First}
use Rattle.refusal.specs.Order.{unless}
use Rattle.refusal.proofs.Means.{Stage, Either, Unless, AtFirst, alike, tests_mean, test_means, each_means}
use Rattle.store.specs.Place.{store_size, place, block_length, is_held}
use Rattle.store.specs.Calls.{user_step, places_step}
use Rattle.store.specs.Meaning.{User, HashSizes, LengthFits, AllFit, Held}
use Rattle.store.proofs.Lowest.{held_means}

pub user_stage : (u : ℕ) → Stage (user_step u ∷ []) (User u) (Unless (User u) 1 0 0)
user_stage u = test_means (leb u 15) 1 0 0 (leb-true u 15, le-leb u 15)

module _ (s : List ℕ) where
  abbrev pub Unfit : ℕ → ℕ → ℕ → Type 0
  Unfit = AtFirst (LengthFits s) 64 3

  pub places_stage : Stage (places_step s ∷ []) (AllFit s) Unfit
  places_stage =
      each_means (λ p. leb (block_length (place s p)) 8192) 64 3 (λ p l. leb-true (block_length (place s p)) 8192)
      (λ p l. le-leb (block_length (place s p)) 8192)

  -- The reason R of a refusal for a place, behind those of an earlier stage.
  pub why_unfit :
      (R : ℕ → ℕ → ℕ → Type 0) {P : Type 0} {Q : ℕ → ℕ → ℕ → Type 0} → ((n p q : ℕ) → Q n p q → R n p q) →
      ((p : ℕ) → P → First (LengthFits s) 64 p → R 3 p 0) → (n p q : ℕ) → Either P Q Unfit n p q → R n p q
  why_unfit R f g n p q = ⊎_elim (f n p q) (λ w. rw (w.1.1, w.1.2) (g p w.0 w.1.0))

  module _ (hash : List ℕ) where
    pub hash_sizes_stage :
        Stage (alike (eqb (length s) store_size ∷ eqb (length hash) 32 ∷ []) 2 0 0) (HashSizes s hash) (Unless (HashSizes s hash) 2 0 0)
    hash_sizes_stage =
        tests_mean (eqb (length s) store_size ∷ eqb (length hash) 32 ∷ []) 2 0 0
        (λ t. (eqb-true (length s) store_size t.0, eqb-true (length hash) 32 t.1.0))
        (λ w. (eq-eqb (length s) store_size w.0, (eq-eqb (length hash) 32 w.1, tt)))

    pub held_stage : Stage (unless (is_held s hash) 15 0 0 ∷ []) (Held s hash) (Unless (Held s hash) 15 0 0)
    held_stage = test_means (is_held s hash) 15 0 0 (held_means s hash)
