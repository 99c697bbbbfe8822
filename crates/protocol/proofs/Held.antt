-- Laws of what a server's list holds: after a record replaces its owner's, that user's place is the record and every other place is as it
-- was. A place whose own count is 0 holds nothing, so the own count held is that of the place either way.
use Prim.Native.Nat.{ℕ, ◌+◌, ◌*◌, ◌≤◌, ◌<◌}
use mathlib.Core.Bool.{Bool, true, false, cond}
use mathlib.Core.List.{List, [], ◌∷◌}
use mathlib.Core.Logic.{⊎_elim}
use mathlib.Core.Path.{◌≡◌, refl, sym, ap, ◌∙◌}
use native.Mathlib.Decide.{ℕ_discrete}
use native.Mathlib.Omega.{arith}
use lib.Dec.{leb, eqb}
use lib.ListN.{length, replicate, length-replicate, get_or-replicate}
use borrow.Author.Tests.{eqb-true, ne_eqb, eq-eqb, le-leb}
use Rattle.layout.specs.Bytes.{four, part, put_at}
use Rattle.layout.proofs.Bytes.{four_past, four_part}
use Rattle.layout.proofs.Put.{put_length, part_put, part_put_other}
use Rattle.search.proofs.Bool.{bool_cases}
use Rattle.refusal.specs.Answer.{Answer, accepted}
use Rattle.refusal.specs.Result.{left}
use Rattle.refusal.specs.Order.{unless, in_order}
use Rattle.refusal.proofs.Order.{passing}
use Rattle.protocol.specs.declared.Server.{Server}
use Rattle.protocol.specs.Version.{size, owner, count, own}
use Rattle.protocol.specs.Server.{empty, make_steps, make, made, slot, held, held_own, replaced}

-- No bytes count none.
pub count_none : (v : ℕ) → count [] v ≡ 0
count_none v = four_past [] (34 + 4 * v) (omega arith)

module _ (s : Server) (x : List ℕ) (long : length s.records ≡ 1568) (h : length x ≡ size) (o : owner x < 16) where
  -- The record is put over its owner's place.
  put_there : (replaced s x).records ≡ put_at s.records (size * owner x) x
  unfolding replaced put_at
  put_there = rw h

  pub replaced_length : length (replaced s x).records ≡ 1568
  replaced_length = ap length put_there ∙ (put_length s.records (size * owner x) x (omega arith) ∙ long)

  pub slot_same : slot (replaced s x) (owner x) ≡ x
  slot_same = ap (λ (r : List ℕ). part size r (owner x)) put_there ∙ part_put size s.records (owner x) x h (omega arith)

  pub slot_other : (v : ℕ) → (v ≡ owner x → ⊥) → slot (replaced s x) v ≡ slot s v
  slot_other v n = ap (λ (r : List ℕ). part size r v) put_there ∙ part_put_other size s.records (owner x) x h (omega arith) v n

-- The own count held is that of the place.
pub held_own_is : (s : Server) (v : ℕ) → held_own s v ≡ count (slot s v) v
unfolding held
held_own_is s v =
    ⊎_elim (λ t. rw t (count_none v ∙ sym (eqb-true (count (slot s v) v) 0 t))) (λ f. rw f) (bool_cases (eqb (count (slot s v) v) 0))

-- A place whose own count is not 0 is held, and one whose own count is 0 is not.
pub held_slot : (s : Server) (v : ℕ) → (count (slot s v) v ≡ 0 → ⊥) → held s v ≡ slot s v
unfolding held
held_slot s v n = rw (ne_eqb (count (slot s v) v) 0 n)

pub held_none : (s : Server) (v : ℕ) → count (slot s v) v ≡ 0 → held s v ≡ []
unfolding held
held_none s v e = rw (eq-eqb (count (slot s v) v) 0 e)

-- Equal places hold the same.
held_cong : (s t : Server) (v : ℕ) → slot s v ≡ slot t v → held s v ≡ held t v
unfolding held
held_cong s t v e = rw e

-- After a record of a count replaces its owner's, that record is held of its owner, and of every other user what was held before: so what
-- holds of the record, and of all else held before, holds of what is held now.
module _ (s : Server) (x : List ℕ) (long : length s.records ≡ 1568) (h : length x ≡ size) (o : owner x < 16) (c : own x ≡ 0 → ⊥) where
  held_same : held (replaced s x) (owner x) ≡ x
  held_same =
      let e : slot (replaced s x) (owner x) ≡ x = slot_same s x long h o in
      held_slot (replaced s x) (owner x) (λ z. c (ap (λ (r : List ℕ). count r (owner x)) (sym e) ∙ z)) ∙ e

  pub now_or_still :
      (P : ℕ → List ℕ → Type 0) → P (owner x) x → ((v : ℕ) → (v ≡ owner x → ⊥) → P v (held s v)) →
      (v : ℕ) → P v (held (replaced s x) v)
  now_or_still P new old v =
      elim (ℕ_discrete v (owner x)) [
        | yes e ↦ rw (e, held_same) new
        | no n ↦ rw (held_cong (replaced s x) s v (slot_other s x long h o v n)) (old v n)
      ]

-- Zeros count none, in any place.
count_zeros : (n v : ℕ) → v < 16 → size * v + size ≤ n → count (part size (replicate n 0) v) v ≡ 0
unfolding four
count_zeros n v l h =
    four_part (replicate n 0) (size * v) size (34 + 4 * v) (omega arith) ∙
    rw (
      get_or-replicate {A = ℕ} n (size * v + (34 + 4 * v)) 0 0 (omega arith),
      get_or-replicate {A = ℕ} n (size * v + (34 + 4 * v) + 1) 0 0 (omega arith),
      get_or-replicate {A = ℕ} n (size * v + (34 + 4 * v) + 2) 0 0 (omega arith),
      get_or-replicate {A = ℕ} n (size * v + (34 + 4 * v) + 3) 0 0 (omega arith),
    )

-- The empty list holds nothing.
pub held_empty : (N v : ℕ) → v < 16 → held (empty N) v ≡ []
unfolding held empty
held_empty N v l = ap (λ (b : Bool). cond b [] (slot (empty N) v)) (eq-eqb (count (slot (empty N) v) v) 0 (count_zeros 1568 v l (omega arith)))

pub empty_length : (N : ℕ) → length (empty N).records ≡ 1568
unfolding empty
empty_length N = length-replicate {A = ℕ} 1568 0

-- Making hands back the list that holds nothing, also where it refuses.
pub made_empty : (N : ℕ) → (M : ℕ) × (made N ≡ empty M)
unfolding made make make_steps in_order
made_empty N = go (leb 1 N) (leb N 16)
  where
    go : (a b : Bool) → (M : ℕ) × (left (in_order (unless a 1 0 0 ∷ unless b 1 0 0 ∷ []) (accepted (empty N))) (empty 1) ≡ empty M)
    go true true = (N, refl)
    go true false = (1, refl)
    go false b = (1, refl)

pub made_for : (N : ℕ) → 1 ≤ N → N ≤ 16 → made N ≡ empty N
unfolding made make make_steps
made_for N a b =
    ap (λ (r : Answer Server). left r (empty 1))
    (passing (make_steps N) (rw (le-leb 1 N a), (rw (le-leb N 16 b), tt)))
