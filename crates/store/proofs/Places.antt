-- Laws of a store's places: other bytes in one place are that place's, and leave every other place as it was. Of a made store every number is 0.
use Prim.Native.Nat.{ℕ, ◌+◌, ◌*◌, ◌≤◌, ◌<◌}
use mathlib.Core.List.{List, []}
use mathlib.Core.Path.{◌≡◌, ◌∙◌}
use native.Mathlib.Omega.{arith}
use lib.ListN.{length, get_or, drop, length-replicate}
use lib.Seq.{get_or-take, get_or-drop}
use Rattle.layout.specs.Bytes.{two}
use Rattle.layout.proofs.Bytes.{two_past, two_part}
use Rattle.layout.proofs.Parts.{length_of_part, part_past}
use Rattle.layout.proofs.Put.{put_length, part_put, part_put_other}
use Rattle.layout.proofs.Zeros.{zeros_read}
use Rattle.store.specs.Place.{place_size, store_size, place, made, with_place}

pub place_length : (s : List ℕ) → length s ≡ store_size → (p : ℕ) → p < 64 → length (place s p) ≡ place_size
place_length s long p h = length_of_part place_size s p (omega arith)

-- Past the last place stand zeros.
pub number_past : (s : List ℕ) → length s ≡ store_size → (p : ℕ) → 64 ≤ p → (i : ℕ) → two (place s p) i ≡ 0
number_past s long p h i = rw (part_past place_size s p (omega arith)) (two_past [] i (omega arith))

-- A byte of a place.
pub place_byte : (s : List ℕ) (p i : ℕ) → i < place_size → get_or (place s p) i 0 ≡ get_or s (place_size * p + i) 0
place_byte s p i h = get_or-take place_size (drop (place_size * p) s) i 0 h ∙ get_or-drop (place_size * p) s i 0

module _ (s : List ℕ) (long : length s ≡ store_size) (p : ℕ) (h : p < 64) (x : List ℕ) (lx : length x ≡ place_size) where
  pub with_length : length (with_place s p x) ≡ store_size
  unfolding with_place
  with_length = put_length s (place_size * p) x (omega arith) ∙ long

  pub place_same : place (with_place s p x) p ≡ x
  unfolding with_place
  place_same = part_put place_size s p x lx (omega arith)

  pub place_other : (q : ℕ) → (q ≡ p → ⊥) → place (with_place s p x) q ≡ place s q
  unfolding with_place
  place_other q n = part_put_other place_size s p x lx (omega arith) q n

pub made_length : length made ≡ store_size
unfolding made
made_length = length-replicate {A = ℕ} store_size 0

pub made_byte : (i : ℕ) → get_or made i 0 ≡ 0
unfolding made
made_byte i = zeros_read [] store_size i

pub made_number : (p i : ℕ) → i + 2 ≤ place_size → two (place made p) i ≡ 0
unfolding two
made_number p i h = two_part made (place_size * p) place_size i h ∙ rw (made_byte (place_size * p + i), made_byte (place_size * p + i + 1))
