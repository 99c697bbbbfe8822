-- Laws of version structures: a made structure reads back, and the orders by their counts.
use Prim.Native.Nat.{ℕ, zero, suc, ◌+◌, ◌*◌, ◌≤◌, ◌<◌}
use mathlib.Core.Bool.{true}
use mathlib.Core.List.{List, ◌∷◌}
use mathlib.Core.Path.{◌≡◌, refl, ap, ◌∙◌}
use native.Mathlib.Omega.{arith}
use lib.Dec.{leb, eqb}
use lib.ListN.{length, length-append}
use borrow.Author.Tests.{leb-true, le-leb, ne_eqb}
use Rattle.layout.specs.Bytes.{four, bytes4}
use Rattle.layout.proofs.Bytes.{four_bytes4, length_bytes4, four_behind}
use Rattle.search.proofs.Search.{every_intro, every_at, every_fails}
use Rattle.protocol.specs.Version.{size, owner, count, counts, structure, counts_before, counts_strictly_before, at_or_before}

length_counts : (f : ℕ → ℕ) (v k : ℕ) → length (counts f v k) ≡ 4 * k
unfolding counts
length_counts f v zero = refl
length_counts f v (suc k) =
    rw (length-append (bytes4 (f v)) (counts f (suc v) k), length_bytes4 (f v), length_counts f (suc v) k) (omega arith)

four_counts : (f : ℕ → ℕ) (v k i : ℕ) → i < k → four (counts f v k) (4 * i) ≡ f (v + i)
unfolding counts
four_counts f v zero i h = absurd (omega arith)
four_counts f v (suc k) zero h = let e : v + 0 ≡ v = omega arith in rw e (four_bytes4 (f v) (counts f (suc v) k))
four_counts f v (suc k) (suc i) h =
    let e : 4 * suc i ≡ length (bytes4 (f v)) + 4 * i = omega (arith, length_bytes4 (f v)) in
    let s : v + suc i ≡ suc v + i = omega arith in
    rw (e, s) (four_behind (bytes4 (f v)) (counts f (suc v) k) (4 * i) ∙ four_counts f (suc v) k i (omega arith))

module _ (u : ℕ) (handle : List ℕ) (f : ℕ → ℕ) (h : length handle ≡ 32) where
  pub length_structure : length (structure u handle f) ≡ size
  unfolding structure
  length_structure = simp length-append (omega (arith, length_counts f 0 16))

  pub count_structure : (v : ℕ) → v < 16 → count (structure u handle f) v ≡ f v
  unfolding structure
  count_structure v l =
      let e : 34 + 4 * v ≡ length (1 ∷ u ∷ handle) + 4 * v = omega arith in
      let s : 0 + v ≡ v = omega arith in
      rw e (four_behind (1 ∷ u ∷ handle) (counts f 0 16) (4 * v) ∙ (four_counts f 0 16 v l ∙ ap f s))

  pub owner_structure : owner (structure u handle f) ≡ u
  unfolding structure
  owner_structure = refl

-- The order of counts, at each user; and of two structures.
module _ (f g : ℕ → ℕ) where
  pub at_most : counts_before f g ≡ true → (v : ℕ) → v < 16 → f v ≤ g v
  unfolding counts_before
  at_most e v l = leb-true _ _ (every_at (λ w. leb (f w) (g w)) 0 16 e v (omega arith) l)

  pub at_most_intro : ((v : ℕ) → v < 16 → f v ≤ g v) → counts_before f g ≡ true
  unfolding counts_before
  at_most_intro h = every_intro (λ w. leb (f w) (g w)) 0 16 (λ v a b. le-leb _ _ (h v b))

  -- Strictly before: at or before, and less at some user.
  pub strictly_intro : counts_before f g ≡ true → (v : ℕ) → v < 16 → f v < g v → counts_strictly_before f g ≡ true
  unfolding counts_strictly_before
  strictly_intro e v l h = rw (e, every_fails (λ w. eqb (f w) (g w)) 0 16 v (omega arith) l (ne_eqb (f v) (g v) (λ q. omega arith)))

module _ (x y : List ℕ) where
  pub before_at : at_or_before x y ≡ true → (v : ℕ) → v < 16 → count x v ≤ count y v
  before_at = at_most (count x) (count y)

  pub before_intro : ((v : ℕ) → v < 16 → count x v ≤ count y v) → at_or_before x y ≡ true
  before_intro = at_most_intro (count x) (count y)
