-- What a store with other bytes at one place is: the new bytes at that place, and what it was before at every other. So it stays sound, and its
-- counts are those of before but for one.
use Prim.Native.Nat.{ℕ, ◌+◌, ◌*◌, ◌≤◌, ◌<◌}
use mathlib.Core.List.{List}
use mathlib.Core.Path.{◌≡◌, sym, subst, ap, ◌∙◌}
use native.Mathlib.Decide.{ℕ_discrete}
use native.Mathlib.Omega.{arith}
use lib.ListN.{length}
use Rattle.sha256.specs.Sha256.{sha256}
use Rattle.store.specs.Place.{place_size, store_size, place, made, block_length, count, block_in, with_place}
use Rattle.store.specs.Meaning.{Free, Holds, LowestHolder, AllFit}
use Rattle.store.proofs.Places.{with_length, place_same, place_other, made_length, made_number}

-- A store of the right length, whose places are of lengths that fit.
pub record Sound (s : List ℕ) : Type 0 where
  pub long : length s ≡ store_size
  pub fits : AllFit s

-- A made store is one, and all its places are free.
pub made_sound : Sound made
made_sound = record { long = made_length; fits = λ p l. omega (arith, made_number p 0 (omega arith)) }

pub made_free : (p : ℕ) → p < 64 → Free (place made p)
made_free p l v h = made_number p (2 + 2 * v) (omega arith)

-- User u counts one more at place p of t than of s, and every other count is the same.
pub record OneMore (p u : ℕ) (s t : List ℕ) : Type 0 where
  pub within : p < 64
  pub user : u < 16
  pub more : count (place t p) u ≡ count (place s p) u + 1
  pub other_users : (v : ℕ) → v < 16 → (v ≡ u → ⊥) → count (place t p) v ≡ count (place s p) v
  pub other_places : (q : ℕ) → (q ≡ p → ⊥) → place t q ≡ place s q

-- Such a place holds the hash of its block; the lowest that does, where none below did before.
pub holds_there :
    {p u : ℕ} {s t : List ℕ} → OneMore p u s t → (hash : List ℕ) → sha256 (block_in (place t p)) ≡ hash →
    ((q : ℕ) → q < p → Holds (place s q) hash → ⊥) → LowestHolder t hash p
holds_there {u = u} m hash e none =
    record {
      within = m.within;
      here = record { counted = (u, m.user, λ z. omega (arith, m.more)); hashed = e };
      none_below = λ q l w. none q l (subst (λ y. Holds y hash) (m.other_places q (λ f. omega arith)) w);
    }

module _ (s : List ℕ) (w : Sound s) (p : ℕ) (h : p < 64) (x : List ℕ) (lx : length x ≡ place_size) where
  here : place (with_place s p x) p ≡ x
  here = place_same s w.long p h x lx

  elsewhere : (q : ℕ) → (q ≡ p → ⊥) → place (with_place s p x) q ≡ place s q
  elsewhere = place_other s w.long p h x lx

  pub still_sound : block_length x ≤ 8192 → Sound (with_place s p x)
  still_sound lb =
      record {
        long = with_length s w.long p h x lx;
        fits =
            λ q l.
            elim (ℕ_discrete q p) [
              | yes e ↦ omega (arith, ap (λ r. block_length (place (with_place s p x) r)) e, ap block_length here)
              | no n ↦ omega (arith, ap block_length (elsewhere q n), w.fits q l)
            ];
      }

  module _ (u : ℕ) (hu : u < 16) (others : (v : ℕ) → v < 16 → (v ≡ u → ⊥) → count x v ≡ count (place s p) v) where
    pub one_more : count x u ≡ count (place s p) u + 1 → OneMore p u s (with_place s p x)
    one_more m =
        record {
          within = h;
          user = hu;
          more = ap (λ y. count y u) here ∙ m;
          other_users = λ v l n. ap (λ y. count y v) here ∙ others v l n;
          other_places = elsewhere;
        }

    pub one_less : count (place s p) u ≡ count x u + 1 → OneMore p u (with_place s p x) s
    one_less m =
        record {
          within = h;
          user = hu;
          more = m ∙ ap (λ y. count y u + 1) (sym here);
          other_users = λ v l n. sym (ap (λ y. count y v) here ∙ others v l n);
          other_places = λ q n. sym (elsewhere q n);
        }
