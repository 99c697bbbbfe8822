-- One block of a lookup: what it takes to pass it, and what follows.
use Prim.Native.Nat.{ℕ, zero, suc, ◌-◌, ◌≤◌, ◌<◌}
use mathlib.Core.Bool.{true}
use mathlib.Core.List.{List, [], ◌∷◌}
use mathlib.Core.Path.{◌≡◌, refl, ap}
use native.Mathlib.Omega.{arith}
use borrow.Author.Tests.{eq-eqb, ne_eqb}
use Rattle.layout.specs.Bytes.{part}
use Rattle.layout.specs.Strings.{same}
use Rattle.layout.proofs.Strings.{same_refl, same_true}
use Rattle.refusal.specs.Answer.{Answer, accepted, refused}
use Rattle.refusal.specs.Order.{unless, in_order}
use Rattle.refusal.proofs.Order.{passed, unless_passed}
use Rattle.sha256.specs.Sha256.{sha256}
use Rattle.itable.specs.Block.{size, kind, used, number, value, to_child, well_formed}
use Rattle.itable.specs.declared.Link.{Link}
use Rattle.itable.specs.Lookup.{Entry, absent, entry_in, last_at_most, known, answer_at, consult}

-- What follows along a slot of b, which is block d of the path and to which k leads.
abbrev pub along : List ℕ → ℕ → ℕ → ℕ → Link → List ℕ → ℕ → Answer Entry
along path i left d k b j = consult path i left (suc d) (to_child k b j)

module _ (path : List ℕ) (i left d : ℕ) (k : Link) where
  -- A block of the wanted hash that is well formed at its place is passed.
  pub consulted :
      (b : List ℕ) → part size path d ≡ b → sha256 b ≡ k.hash → well_formed k b ≡ true →
      consult path i (suc left) d k ≡ answer_at b i left (suc d) (along path i left d k b)
  unfolding consult in_order
  consulted b here e f = rw (here, f, ← e, same_refl (sha256 b))

  -- Where the lookup accepts, the block had the wanted hash, and what follows accepts.
  pub accepting :
      {e : Entry} → consult path i (suc left) d k ≡ accepted e →
      (sha256 (part size path d) ≡ k.hash) × (answer_at (part size path d) i left (suc d) (along path i left d k (part size path d)) ≡ accepted e)
  unfolding consult
  accepting h =
      let p = passed
      (unless (same (sha256 (part size path d)) k.hash) 8 d 0 ∷ unless (well_formed k (part size path d)) 3 d 0 ∷ []) h in
      (same_true _ _ (unless_passed (same (sha256 (part size path d)) k.hash) 8 d 0 p.0.0), p.1)

module _ (b : List ℕ) (i left d : ℕ) (on : ℕ → Answer Entry) where
  pub answer_leaf : kind b ≡ 3 → answer_at b i left d on ≡ known left d (entry_in (number b) (value b) (used b) i)
  unfolding answer_at
  answer_leaf k = rw (eq-eqb (kind b) 3 k)

  pub answer_none :
      (kind b ≡ 3 → ⊥) → last_at_most (number b) i (used b) ≡ 0 → answer_at b i left d on ≡ known left d absent
  unfolding answer_at
  answer_none k e = rw (ne_eqb (kind b) 3 k, e)

  pub answer_on :
      (j : ℕ) → (kind b ≡ 3 → ⊥) → last_at_most (number b) i (used b) ≡ suc j → answer_at b i left d on ≡ on j
  unfolding answer_at
  answer_on j k e = rw (ne_eqb (kind b) 3 k, e)

-- The lookup from block d of n on: there is none, or it is this one.
module _ (path : List ℕ) (i n d : ℕ) (k : Link) where
  pub consult_none : n ≤ d → consult path i (n - d) d k ≡ refused 9 d 0
  unfolding consult
  consult_none h = let z : n - d ≡ 0 = omega arith in rw z

  pub consult_next :
      d < n →
      consult path i (n - d) d k ≡
      in_order (unless (same (sha256 (part size path d)) k.hash) 8 d 0 ∷ unless (well_formed k (part size path d)) 3 d 0 ∷ [])
      (answer_at (part size path d) i (n - d - 1) (suc d) (along path i (n - d - 1) d k (part size path d)))
  unfolding consult
  consult_next h = let e : n - d ≡ suc (n - d - 1) = omega arith in ap (λ m. consult path i m d k) e

-- Blocks left over refuse what is known, and otherwise it is accepted.
pub known_over : (left d : ℕ) (e : Entry) → 0 < left → known left d e ≡ refused 9 d 0
known_over zero d e h = absurd (omega arith)
known_over (suc left) d e h = refl

pub known_last : (left d : ℕ) (e : Entry) → left ≤ 0 → known left d e ≡ accepted e
known_last zero d e h = refl
known_last (suc left) d e h = absurd (omega arith)

pub known_accepts : (left d : ℕ) {a e : Entry} → known left d a ≡ accepted e → a ≡ e
known_accepts zero d h = cc
known_accepts (suc left) d h = let z : ◌≡◌ {A = ℕ} 0 1 = cc in absurd (omega arith)
