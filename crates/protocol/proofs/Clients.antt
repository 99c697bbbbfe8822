-- Why a fork is never joined, from four facts about clients and nothing else. A list that shows both sides of a fork holds one of them, signed
-- earlier, that counts the other; the list that this one was made from shows both sides as well, and came before.
use Prim.Native.Nat.{ℕ, zero, suc, ◌+◌, ◌≤◌, ◌<◌}
use mathlib.Core.Logic.{◌⊎◌, ⊎_elim}
use mathlib.Core.Path.{◌≡◌}
use native.Mathlib.Decide.{dec_lt}
use native.Mathlib.Omega.{arith}

-- Structures of type S count operations. `Signs t a x`: at time t, user a signs x. `Lists t a r`: at time t a list is accepted that has the
-- record r of owner a.
pub record Clients {S : Type 0} (count : S → ℕ → ℕ) (honest : ℕ → Type 0) (Signs Lists : ℕ → ℕ → S → Type 0) : Type 0 where
  pub user : {t a : ℕ} {x : S} → Signs t a x → a < 16
  -- A user signs one structure for each own count.
  pub once : {t t' a : ℕ} {x x' : S} → Signs t a x → Signs t' a x' → count x a ≡ count x' a → x ≡ x'
  -- A signed structure is made from a list, accepted then or earlier: that list has the structure signed before, and the counts of the
  -- other users are those of their records.
  pub made :
      {t a : ℕ} {x : S} → Signs t a x →
      (t' : ℕ) ×
      (t' ≤ t) ×
      (1 < count x a → (r : S) × Lists t' a r × (count r a + 1 ≡ count x a)) ×
      ((v : ℕ) → v < 16 → (v ≡ a → ⊥) → 0 < count x v → (r : S) × Lists t' v r × (count r v ≡ count x v))
  -- Any two records of an accepted list are ordered.
  pub ordered :
      {t a b : ℕ} {r r' : S} → Lists t a r → Lists t b r' →
      ((v : ℕ) → v < 16 → count r v ≤ count r' v) ⊎ ((v : ℕ) → v < 16 → count r' v ≤ count r v)
  -- An honest owner's record was signed by the owner earlier.
  pub signed : {t a : ℕ} {r : S} → honest a → Lists t a r → (t' : ℕ) × (t' < t) × Signs t' a r

module _ {S : Type 0} {count : S → ℕ → ℕ} {honest : ℕ → Type 0} {Signs Lists : ℕ → ℕ → S → Type 0} (C : Clients count honest Signs Lists) where
  -- A list accepted at time t shows x or later of a, and y or later of b.
  Joins : ℕ → ℕ → S → ℕ → S → Type 0
  Joins t a x b y = ((r : S) × Lists t a r × (count x a ≤ count r a)) × ((r : S) × Lists t b r × (count y b ≤ count r b))

  -- What b signed at time t is y or later and counts x of a: it was made from a list that shows both.
  from_joined :
      {t t' a b : ℕ} {x y z : S} → a < 16 → Signs t' b y → Signs t b z → count x b < count y b → count y a < count x a →
      count y b ≤ count z b → count x a ≤ count z a → (t'' : ℕ) × (t'' ≤ t) × Joins t'' a x b y
  unfolding Joins
  from_joined {a = a} {b = b} {x = x} {y = y} {z = z} l sy sz p q hb ha =
      let m = C.made sz in
      let ne : a ≡ b → ⊥ = λ e. let h : count x a < count y a = rw e p in omega arith in
      let more : count y b < count z b =
      elim (dec_lt (count y b) (count z b)) [
        | yes h ↦ h
        | no h ↦ let e : y ≡ z = C.once sy sz (omega arith) in let h : count x a ≤ count y a = rw e ha in absurd (omega arith)
      ]
      in
      let rb = m.2 (omega arith) in
      let ra = m.3 a l ne (omega arith) in
      (m.0, m.1, ((ra.0, ra.1, omega (arith, ra.2)), (rb.0, rb.1, omega (arith, rb.2))))

  module _
      {a b : ℕ}
      {x y : S}
      {s t : ℕ}
      (ha : honest a)
      (hb : honest b)
      (sx : Signs s a x)
      (sy : Signs t b y)
      (p : count x b < count y b)
      (q : count y a < count x a)
    where
      never_joined : (n k : ℕ) → k < n → Joins k a x b y → ⊥
      unfolding Joins
      never_joined zero k l j = absurd (omega arith)
      never_joined (suc n) k l j =
          let fa = C.signed ha j.0.1 in
          let fb = C.signed hb j.1.1 in
          ⊎_elim
          (λ le.
          let h = le a (C.user sx) in
          let d = from_joined (C.user sx) sy fb.2 p q j.1.2 (omega (arith, h, j.0.2)) in
          never_joined n d.0 (omega (arith, d.1, fb.1)) d.2)
          (λ le.
          let h = le b (C.user sy) in
          let d = from_joined (C.user sy) sx fa.2 q p j.0.2 (omega (arith, h, j.1.2)) in
          never_joined n d.0 (omega (arith, d.1, fa.1)) (d.2.1, d.2.0))
          (C.ordered j.0.1 j.1.1)

      -- No list shows x or later of a and y or later of b.
      pub no_list_joins : {k : ℕ} {r r' : S} → Lists k a r → count x a ≤ count r a → Lists k b r' → count y b ≤ count r' b → ⊥
      unfolding Joins
      no_list_joins {k} {r} {r'} lr hr lr' hr' = never_joined (suc k) k (omega arith) ((r, lr, hr), (r', lr', hr'))
