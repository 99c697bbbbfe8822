-- Why one number is enough, from facts about clients and nothing else: what counts an honest user's structure is that structure, or was made
-- from a list whose record of this user counts it too. That record is at or before it, and was signed earlier.
use Prim.Native.Nat.{ℕ, zero, suc, ◌+◌, ◌≤◌, ◌<◌}
use mathlib.Core.Path.{◌≡◌, sym}
use native.Mathlib.Decide.{dec_lt, ℕ_discrete}
use native.Mathlib.Omega.{arith}
use Rattle.protocol.proofs.Clients.{Clients}

-- Clients whose structures are each made of records at or before it.
pub record Counting {S : Type 0} (count : S → ℕ → ℕ) (honest : ℕ → Type 0) (Signs Lists : ℕ → ℕ → S → Type 0) : Type 0 where
  pub clients : Clients count honest Signs Lists
  -- What a user signs counts an operation of this user.
  pub counted : {t a : ℕ} {x : S} → Signs t a x → 0 < count x a
  -- As `made` of `Clients`, and each of these records is at or before the structure.
  pub made :
      {t a : ℕ} {x : S} → Signs t a x →
      (t' : ℕ) ×
      (t' ≤ t) ×
      (1 < count x a →
      (r : S) × Lists t' a r × (count r a + 1 ≡ count x a) × ((w : ℕ) → w < 16 → count r w ≤ count x w)) ×
      ((v : ℕ) → v < 16 → (v ≡ a → ⊥) → 0 < count x v →
      (r : S) × Lists t' v r × (count r v ≡ count x v) × ((w : ℕ) → w < 16 → count r w ≤ count x w))

module _ {S : Type 0} {count : S → ℕ → ℕ} {honest : ℕ → Type 0} {Signs Lists : ℕ → ℕ → S → Type 0} (C : Counting count honest Signs Lists) where
  until :
      (n : ℕ) {s t a b : ℕ} {x y : S} → t < n → honest a → Signs s a x → Signs t b y → count x a ≤ count y a →
      (w : ℕ) → w < 16 → count x w ≤ count y w
  until zero l h sx sy c w k = absurd (omega arith)
  until (suc n) {t = t} {a = a} {b = b} {x = x} {y = y} l h sx sy c w k =
      let some = C.counted sx in
      -- By a record of a that counts x and is at or before y: it was signed earlier.
      let by : (t' : ℕ) → t' ≤ t → (r : S) → Lists t' a r → count x a ≤ count r a → count r w ≤ count y w → count x w ≤ count y w =
      λ t' m r lists p q. let g = C.clients.signed h lists in omega (arith, until n (omega (arith, g.1)) h sx g.2 p w k)
      in
      elim (ℕ_discrete a b) [
        | no o ↦ let m = C.made sy in let r = m.3 a (C.clients.user sx) o (omega arith) in by m.0 m.1 r.0 r.1 (omega (arith, r.2)) (r.3 w k)
        | yes e ↦
            let sy' : Signs t a y = rw (sym e) at sy in
            elim (dec_lt (count x a) (count y a)) [
              | no o ↦ let same : x ≡ y = C.clients.once sx sy' (omega arith) in rw same (omega arith)
              | yes o ↦ let m = C.made sy' in let r = m.2 (omega arith) in by m.0 m.1 r.0 r.1 (omega (arith, r.2)) (r.3 w k)
            ]
      ]

  -- What counts x of a counts of everybody at least what x does.
  pub counts_all :
      {s t a b : ℕ} {x y : S} → honest a → Signs s a x → Signs t b y → count x a ≤ count y a → (w : ℕ) → w < 16 → count x w ≤ count y w
  counts_all {t = t} h sx sy c = until (suc t) (omega arith) h sx sy c
