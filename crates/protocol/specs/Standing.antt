-- What the four answers of the comparison mean, with no test and no search: of any sixteen counts with any sixteen, whoever's they are.
use Rattle.std.specs.Prelude.{ℕ, ◌≤◌, ◌<◌, true, ◌||◌, List, [], ◌∷◌, ◌⊎◌, ◌↔◌, ◌≡◌, get_or}
use Rattle.protocol.specs.Version.{counts_before, counts_strictly_before, Standing, equal, before, after, apart, standing}

-- The condition of each answer, on the counts f and g of users 0 to 15: all are equal; each is at most the other's, and some is less; each is
-- at least the other's, and some is more; some is less, and some is more.
abbrev pub Stands : (ℕ → ℕ) → (ℕ → ℕ) → Standing → Type 0
Stands f g equal = (v : ℕ) → v < 16 → f v ≡ g v
Stands f g before = ((v : ℕ) → v < 16 → f v ≤ g v) × ((v : ℕ) × (v < 16) × (f v < g v))
Stands f g after = ((v : ℕ) → v < 16 → g v ≤ f v) × ((v : ℕ) × (v < 16) × (g v < f v))
Stands f g apart = ((v : ℕ) × (v < 16) × (f v < g v)) × ((v : ℕ) × (v < 16) × (g v < f v))

-- Each answer is given exactly where its condition holds. So of the four conditions exactly one holds.
pub record StandingMeans : Type 0 where
  pub exactly : (f g : ℕ → ℕ) (s : Standing) → (standing f g ≡ s) ↔ Stands f g s
  pub one_of_four : (f g : ℕ → ℕ) → (s : Standing) × (Stands f g s) × ((t : Standing) → Stands f g t → t ≡ s)

-- The answer the other way round.
abbrev pub flipped : Standing → Standing
flipped equal = equal
flipped before = after
flipped after = before
flipped apart = apart

abbrev pub Flipped : Type 0
Flipped = (f g : ℕ → ℕ) → standing g f ≡ flipped (standing f g)

-- The orders, as they are read from the answer.
pub record OrdersRead : Type 0 where
  pub strictly_before_stands : (f g : ℕ → ℕ) → (counts_strictly_before f g ≡ true) ↔ (standing f g ≡ before)
  pub at_or_before_stands : (f g : ℕ → ℕ) → (counts_before f g ≡ true) ↔ ((standing f g ≡ equal) ⊎ (standing f g ≡ before))
  pub one_of_two : (f g : ℕ → ℕ) → ((counts_before f g || counts_before g f) ≡ true) ↔ (standing f g ≡ apart → ⊥)

-- Counts that begin so, and are 0 from there on.
abbrev pub from : List ℕ → ℕ → ℕ
from c v = get_or c v 0

-- Each answer is given: of a record with itself, of an older one, of a newer one, and across a fork.
abbrev pub StandingsOccur : Type 0
StandingsOccur =
    standing (from (2 ∷ 1 ∷ [])) (from (2 ∷ 1 ∷ [])) ∷
    standing (from (1 ∷ 0 ∷ [])) (from (2 ∷ 1 ∷ [])) ∷
    standing (from (2 ∷ 1 ∷ [])) (from (1 ∷ 0 ∷ [])) ∷
    standing (from (4 ∷ 2 ∷ [])) (from (2 ∷ 4 ∷ [])) ∷ [] ≡
    equal ∷ before ∷ after ∷ apart ∷ []
