-- What many lookups in one call mean, with no test and no search: which lengths fit, what each part of the buffer is, and which question refuses.
use Rattle.std.specs.Prelude.{ℕ, ◌*◌, ◌≤◌, ◌<◌, List, [], ◌∷◌, ◌⊎◌, ◌↔◌, ◌≡◌, length, get_or, replicate}
use Rattle.layout.specs.Bytes.{part, parts}
use Rattle.search.specs.First.{First}
use Rattle.refusal.specs.Answer.{Answer, accepted, refused}
use Rattle.itable.specs.Block.{size}
use Rattle.itable.specs.Lookup.{Entry, found, absent, lookup}
use Rattle.itable.specs.Many.{total, single, entry_size, entry_bytes, many}

-- 2, "for the whole call".
pub record ManySizes (handle numbers counts paths : List ℕ) (room : ℕ) : Type 0 where
  pub handle_long : length handle ≡ 32
  pub count_each : length numbers ≡ length counts
  pub at_most : length numbers ≤ 64
  pub filled : size * total counts ≡ length paths
  pub room_due : room ≡ entry_size * length numbers

-- A single lookup is accepted.
abbrev pub IsAccepted : Answer Entry → Type 0
IsAccepted a = (e : Entry) × (a ≡ accepted e)

-- The call is accepted: every question's lookup is, and part q of the buffer is what it says.
pub record Answered (handle numbers counts paths : List ℕ) (room : ℕ) (out : List ℕ) : Type 0 where
  pub sizes : ManySizes handle numbers counts paths room
  pub whole : length out ≡ room
  pub answers :
      (q : ℕ) → q < length numbers →
      (e : Entry) × (single handle numbers counts paths q ≡ accepted e) × (part entry_size out q ≡ entry_bytes e)

-- Why the call is refused with a number and two positions: the lengths do not fit, or q is the first question whose lookup is refused, with n and p.
pub data WhyMany (handle numbers counts paths : List ℕ) (room : ℕ) : ℕ → ℕ → ℕ → Type 0 where
  lengths : (ManySizes handle numbers counts paths room → ⊥) → WhyMany handle numbers counts paths room 2 0 0
  question :
      {n q p r : ℕ} → ManySizes handle numbers counts paths room →
      First (λ j. IsAccepted (single handle numbers counts paths j)) (length numbers) q →
      single handle numbers counts paths q ≡ refused n p r → WhyMany handle numbers counts paths room n q p

abbrev pub ManyMeans : Type 0
ManyMeans =
    (handle numbers counts paths : List ℕ) (room : ℕ) →
    ((out : List ℕ) → (many handle numbers counts paths room ≡ accepted out) ↔ Answered handle numbers counts paths room out) ×
    ((n q p : ℕ) → (many handle numbers counts paths room ≡ refused n q p) ↔ WhyMany handle numbers counts paths room n q p)

-- A count of 0 or above 3 is not among the whole call's: it is that question's own 2, in its turn.
abbrev pub CountRefused : Type 0
CountRefused =
    (handle numbers counts paths : List ℕ) (room q : ℕ) → ManySizes handle numbers counts paths room → q < length numbers →
    ((j : ℕ) → j < q → IsAccepted (single handle numbers counts paths j)) → (get_or counts q 0 ≡ 0) ⊎ (3 < get_or counts q 0) →
    many handle numbers counts paths room ≡ refused 2 q 0

-- One question, with all the bytes as its path.
abbrev pub asked : List ℕ → ℕ → List ℕ → Answer (List ℕ)
asked handle i path = many handle (i ∷ []) (parts size path ∷ []) path entry_size

-- It is answered as the lookup answers it: 1 and the handle where the file is found, a handle of zeros too; zeros where it is absent; and refused as
-- the lookup is, with the question's index, 0, first and the lookup's position second.
pub record OneQuestion : Type 0 where
  pub is_found_means : (handle : List ℕ) (i : ℕ) (path h : List ℕ) → lookup handle i path ≡ accepted (found h) → asked handle i path ≡ accepted (1 ∷ h)
  pub is_absent : (handle : List ℕ) (i : ℕ) (path : List ℕ) → lookup handle i path ≡ accepted absent → asked handle i path ≡ accepted (replicate 33 0)
  pub is_refused :
      (handle : List ℕ) (i : ℕ) (path : List ℕ) (n p q : ℕ) → lookup handle i path ≡ refused n p q → asked handle i path ≡ refused n 0 p
