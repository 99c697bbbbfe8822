-- The code's rounds are FIPS's: each takes the word at its place of the array, and that is the standard's (`words_taken`).
-- The law of one round is `one_more`, over the round's number and the words; that of one turn, `turned`, is cited by the function of sixteen.
use Rattle.std.proofs.Common.{◌≡◌, ℕ, zero, suc, ◌+◌, ◌%◌, ◌<◌, ◌≤◌, List, get_or, sym, refl, ap, ◌∙◌, add-zero, add-suc, arith, lt-ltb, le-ltb}
use native.Mathlib.Decide.{dec_lt}
use Rattle.sha256.specs.declared.State.{State}
use Rattle.sha256.specs.Sha256.{K, round_of, rounds}
use Rattle.sha256.specs.Internal.Rolling.{after_round, queue_after, rounds_over}
use Rattle.sha256.specs.WordsTaken.{loaded, Queues}
use Rattle.sha256.proofs.WordsTaken.{words_taken}

-- Rounds of equal parts: the table stays out of what is rewritten.
alike : {s s' : State} {k k' w w' : ℕ} → s ≡ s' → k ≡ k' → w ≡ w' → round_of s k w ≡ round_of s' k' w'
alike e f g = rw (e, f, g)

-- What a round's contract says of the result r of round t, with the table k and the words w.
abbrev pub Takes : State → List ℕ → List ℕ → ℕ → State → Type 0
Takes s k w t r = (k ≡ K) × (r ≡ round_of s (get_or k t 0) (get_or w (t % 16) 0))

pub one_more :
    (q : ℕ → List ℕ) (z : State) (t n : ℕ) {s r : State} {k : List ℕ}
    → s ≡ rounds_over q z t n
    → Takes s k (q n) (t + n) r
    → r ≡ rounds_over q z t (suc n)
unfolding rounds_over
one_more q z t n e c = c.1 ∙ alike e (ap (λ k. get_or k (t + n) 0) c.0) refl

-- The working variables s and the queue w after n turns from z and v, from round t on.
abbrev pub Turned : List ℕ → State → ℕ → ℕ → State → List ℕ → Type 0
Turned v z t n s w = (s ≡ rounds_over (queue_after v t) z t n) × (w ≡ queue_after v t n)

pub unturned : (v : List ℕ) (z : State) (t : ℕ) → Turned v z t 0 z v
unfolding queue_after rounds_over
unturned v z t = (refl, refl)

-- One more, round i.
pub turned :
    (v : List ℕ) (z : State) (t n : ℕ) {i : ℕ} {s r : State} {w w' : List ℕ}
    → i ≡ t + n
    → Turned v z t n s w
    → r ≡ round_of s (get_or K i 0) (get_or w (i % 16) 0)
    → w' ≡ after_round w i
    → Turned v z t (suc n) r w'
unfolding queue_after
turned v z t n h e takes leaves = (
  one_more (queue_after v t) z t n e.0
      (refl, takes ∙ alike refl (ap (λ i. get_or K i 0) h) (rw h (ap (λ w. get_or w ((t + n) % 16) 0) e.1))),
  leaves ∙ rw h (ap (λ w. after_round w (t + n)) e.1),
)

-- The arrays w t that the contracts speak of, before each round t of the block b, and the working variables from z on.
module _ (b : List ℕ) (w : ℕ → List ℕ) (q : Queues b w) (z : State) where
  after : (t : ℕ) → t < 63 → w (t + 1) ≡ after_round (w t) t
  unfolding after_round
  after t h =
      elim (dec_lt t 48) [
        | yes l ↦ rw (lt-ltb t 48 l) (q.turned t l)
        | no g ↦ rw (le-ltb t 48 (omega arith)) (q.kept t (omega arith) h)
      ]

  onward : (t n : ℕ) → t + n < 64 → queue_after (w t) t n ≡ w (t + n)
  unfolding queue_after
  onward t zero h = rw add-zero
  onward t (suc n) h =
      let e : t + n + 1 ≡ t + suc n = omega arith in
      ap (λ v. after_round v (t + n)) (onward t n (omega arith)) ∙ sym (after (t + n) (omega arith)) ∙ ap w e

  -- Rounds over these arrays are the standard's, since each takes the standard's word.
  over :
      (v : ℕ → List ℕ) (t n : ℕ)
      → t + n ≤ 64
      → ((m : ℕ) → m < n → v m ≡ w (t + m))
      → rounds_over v (rounds b z t) t n ≡ rounds b z (t + n)
  unfolding rounds_over rounds
  over v t zero l h = rw add-zero
  over v t (suc n) l h =
      alike
      (over v t n (omega arith) (λ m i. h m (omega arith)))
      refl
      (ap (λ u. get_or u ((t + n) % 16) 0) (h n (omega arith)) ∙ (words_taken b w q (t + n) (omega arith)).1)
      ∙ sym (ap (rounds b z) (add-suc t n))

  abbrev pub Held : ℕ → State → List ℕ → Type 0
  Held t s u = (s ≡ rounds b z t) × (u ≡ w t)

  pub start : {u : List ℕ} → u ≡ loaded b → Held 0 z u
  unfolding rounds
  start e = (refl, e ∙ sym q.first)

  -- Sixteen rounds from t on. The queue after the last of all is of no use.
  pub sixteen_rounds :
      (t : ℕ) {s r : State} {u : List ℕ}
      → t + 16 ≤ 64
      → Held t s u
      → r ≡ rounds_over (queue_after u t) s t 16
      → r ≡ rounds b z (t + 16)
  sixteen_rounds t l e c = c ∙ rw (e.0, e.1) (over (queue_after (w t) t) t 16 l (λ m i. onward t m (omega arith)))

  pub sixteen_turns :
      (t : ℕ) {s r : State} {u u' : List ℕ}
      → t + 16 < 64
      → Held t s u
      → r ≡ rounds_over (queue_after u t) s t 16
      → u' ≡ queue_after u t 16
      → Held (t + 16) r u'
  sixteen_turns t l e c d = (sixteen_rounds t (omega arith) e c, d ∙ rw e.1 (onward t 16 l))
