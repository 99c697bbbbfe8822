-- The counts among a record's fields are its counts, and the orders of two structures' fields are those of their records.
use Prim.Native.Nat.{ℕ, ◌<◌}
use mathlib.Core.Bool.{not, ◌&&◌}
use mathlib.Core.List.{List}
use mathlib.Core.Path.{◌≡◌, refl, ap₂}
use lib.Dec.{leb, eqb}
use Rattle.layout.specs.Bytes.{values}
use Rattle.layout.proofs.Values.{value_at}
use Rattle.protocol.specs.Version.{count, counts_before, counts_strictly_before, at_or_before, strictly_before}
use Rattle.search.proofs.Search.{every_cong}
use Rattle.version.specs.Version.{fields, count_in}

pub count_values : (g : ℕ → ℕ) (v : ℕ) → v < 16 → count_in (values g 0 16) v ≡ g v
count_values g = value_at g 16

pub count_fields : (x : List ℕ) (v : ℕ) → v < 16 → count_in (fields x).counts v ≡ count x v
unfolding fields
count_fields x = count_values (count x)

pub before_fields : (x y : List ℕ) → counts_before (count_in (fields x).counts) (count_in (fields y).counts) ≡ at_or_before x y
unfolding counts_before
before_fields x y = every_cong _ _ 0 16 (λ v a b. ap₂ leb (count_fields x v b) (count_fields y v b))

-- Counts that agree are strictly before the same.
pub strictly_cong :
    (f h g k : ℕ → ℕ) → ((v : ℕ) → v < 16 → f v ≡ h v) → ((v : ℕ) → v < 16 → g v ≡ k v) →
    counts_strictly_before f g ≡ counts_strictly_before h k
unfolding counts_strictly_before counts_before
strictly_cong f h g k p q =
    ap₂ (λ p q. p && not q) (every_cong _ _ 0 16 (λ v a b. ap₂ leb (p v b) (q v b)))
    (every_cong _ _ 0 16 (λ v a b. ap₂ eqb (p v b) (q v b)))

pub strictly_values :
    (x : List ℕ) (g : ℕ → ℕ) → counts_strictly_before (count_in (fields x).counts) (count_in (values g 0 16)) ≡ counts_strictly_before (count x) g
strictly_values x g = strictly_cong _ _ _ _ (count_fields x) (count_values g)

pub strictly_fields : (x y : List ℕ) → counts_strictly_before (count_in (fields x).counts) (count_in (fields y).counts) ≡ strictly_before x y
unfolding fields
strictly_fields x y = strictly_values x (count y)

-- The counts that are read of a record, compared with any; and any compared with those among a record's fields.
pub before_counts : (x : List ℕ) (g : ℕ → ℕ) → counts_strictly_before (count_in (values (count x) 0 16)) g ≡ counts_strictly_before (count x) g
before_counts x g = strictly_cong _ _ _ _ (count_values (count x)) (λ v h. refl)

pub before_read : (f : ℕ → ℕ) (x : List ℕ) → counts_strictly_before f (count_in (fields x).counts) ≡ counts_strictly_before f (count x)
before_read f x = strictly_cong _ _ _ _ (λ v h. refl) (count_fields x)
