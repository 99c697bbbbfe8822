-- Laws of the searches: a search is fixed by what it finds, and a test over all places by each of them.
use Prim.Native.Nat.{ℕ, zero, suc, ◌+◌, ◌≤◌, ◌<◌}
use mathlib.Core.Bool.{Bool, true, false, not, ◌&&◌}
use mathlib.Core.Logic.{⊎_elim}
use mathlib.Core.Path.{◌≡◌, refl, sym, subst, ap, ◌∙◌}
use native.Mathlib.Decide.{dec_lt}
use native.Mathlib.Nat.{eq-or-lt_of_le}
use native.Mathlib.Omega.{arith}
use lib.Dec.{eqb}
use borrow.Author.Tests.{eqb-true, eqb-false, eq-eqb, ne_eqb, not-true, not-false}
use Rattle.search.specs.Search.{find, every}
use Rattle.search.proofs.Bool.{not_both, bool_cases}

-- r is the first place from i on at which p holds, or i + k.
pub record Found (p : ℕ → Bool) (i k r : ℕ) : Type 0 where
  pub from : i ≤ r
  pub within : r ≤ i + k
  pub before : (j : ℕ) → i ≤ j → j < r → p j ≡ false
  pub hit : r < i + k → p r ≡ true

found_step :
    (p : ℕ → Bool) (i k : ℕ) (b : Bool) → p i ≡ b → Found p (suc i) k (find p (suc i) k) →
    Found p i (suc k) (elim b [ true ↦ i | false ↦ find p (suc i) k ])
found_step p i k true e f =
    record { from = omega arith; within = omega arith; before = λ j h l. absurd (omega arith); hit = λ _. e }
found_step p i k false e f =
    record {
      from = omega arith;
      within = omega arith;
      before = λ j h l. ⊎_elim (λ q. rw (← q) e) (λ q. f.before j q l) (eq-or-lt_of_le {n = i} {m = j} h);
      hit = λ h. f.hit (omega arith);
    }

pub found : (p : ℕ → Bool) (i k : ℕ) → Found p i k (find p i k)
unfolding find
found p i zero =
    record { from = omega arith; within = omega arith; before = λ j h l. absurd (omega arith); hit = λ h. absurd (omega arith) }
found p i (suc k) = found_step p i k (p i) refl (found p (suc i) k)

-- A place with the properties of the first one is the first one.
pub found_unique : {p : ℕ → Bool} {i k r s : ℕ} → Found p i k r → Found p i k s → r ≡ s
found_unique {p} {i} {k} {r} {s} f g =
    elim (dec_lt r s) [
      | yes lt ↦ absurd (not_both (f.hit (omega (arith, g.within))) (g.before r f.from lt))
      | no ge ↦
          ⊎_elim (λ e. sym e) (λ lt. absurd (not_both (g.hit (omega (arith, f.within))) (f.before s g.from lt)))
          (eq-or-lt_of_le {n = s} {m = r} (omega arith))
    ]

-- The search finds r, where p holds and nowhere before.
pub find_at :
    (p : ℕ → Bool) (i k r : ℕ) → i ≤ r → r < i + k → ((j : ℕ) → i ≤ j → j < r → p j ≡ false) → p r ≡ true → find p i k ≡ r
find_at p i k r h l b e =
    found_unique (found p i k) (record { from = h; within = omega arith; before = b; hit = λ _. e })

-- The search finds nothing.
pub find_none : (p : ℕ → Bool) (i k : ℕ) → ((j : ℕ) → i ≤ j → j < i + k → p j ≡ false) → find p i k ≡ i + k
find_none p i k b =
    found_unique (found p i k)
    (record { from = omega arith; within = omega arith; before = b; hit = λ h. absurd (omega arith) })

-- The same, of a search from place 0.
module _ (p : ℕ → Bool) (k : ℕ) where
  pub find_first : (r : ℕ) → r < k → ((j : ℕ) → 0 ≤ j → j < r → p j ≡ false) → p r ≡ true → find p 0 k ≡ r
  find_first r l b e = find_at p 0 k r (omega arith) (omega arith) b e

  pub find_last : ((j : ℕ) → 0 ≤ j → j < k → p j ≡ false) → find p 0 k ≡ k
  find_last b = let z : 0 + k ≡ k = omega arith in find_none p 0 k (λ j a l. b j a (omega arith)) ∙ z

-- Tests that agree at each place find the same.
pub find_cong : (p q : ℕ → Bool) (i k : ℕ) → ((j : ℕ) → i ≤ j → j < i + k → p j ≡ q j) → find p i k ≡ find q i k
find_cong p q i k e =
    let f : Found p i k (find p i k) = found p i k in
    found_unique f
    (let g : Found q i k (find q i k) = found q i k in
    record {
      from = g.from;
      within = g.within;
      before = λ j h l. e j h (omega (arith, g.within)) ∙ g.before j h l;
      hit = λ h. e _ g.from h ∙ g.hit h;
    })

pub every_intro : (p : ℕ → Bool) (i k : ℕ) → ((j : ℕ) → i ≤ j → j < i + k → p j ≡ true) → every p i k ≡ true
unfolding every
every_intro p i k h =
    eq-eqb _ _ (find_none (λ v. not (p v)) i k (λ j a b. ap not (h j a b)))

pub every_at : (p : ℕ → Bool) (i k : ℕ) → every p i k ≡ true → (j : ℕ) → i ≤ j → j < i + k → p j ≡ true
unfolding every
every_at p i k e j h l =
    let f : Found (λ v. not (p v)) i k (find (λ v. not (p v)) i k) = found (λ v. not (p v)) i k in
    let q : find (λ v. not (p v)) i k ≡ i + k = eqb-true _ _ e in not-false (p j) (f.before j h (omega arith))

-- A place at which p fails.
pub every_fails : (p : ℕ → Bool) (i k j : ℕ) → i ≤ j → j < i + k → p j ≡ false → every p i k ≡ false
every_fails p i k j h l e = ⊎_elim (λ t. absurd (not_both (every_at p i k t j h l) e)) (λ f. f) (bool_cases (every p i k))

-- Where p does not hold everywhere, the first place at which it fails.
pub first_failure : (p : ℕ → Bool) (i k : ℕ) → every p i k ≡ false → (find (λ v. not (p v)) i k < i + k) × (p (find (λ v. not (p v)) i k) ≡ false)
unfolding every
first_failure p i k e =
    let f : Found (λ v. not (p v)) i k (find (λ v. not (p v)) i k) = found (λ v. not (p v)) i k in
    let ne : find (λ v. not (p v)) i k ≡ i + k → ⊥ = eqb-false _ _ e in
    let l : find (λ v. not (p v)) i k < i + k = ⊎_elim (λ q. absurd (ne q)) (λ q. q) (eq-or-lt_of_le f.within) in
    (l, not-true (p (find (λ v. not (p v)) i k)) (f.hit l))

-- A test over k places, by the first place at which it fails.
module _ (p : ℕ → Bool) (k r : ℕ) (e : r ≡ find (λ i. not (p i)) 0 k) where
  pub some_fails : (r ≡ k → ⊥) → every p 0 k ≡ false
  unfolding every
  some_fails h = rw (← e) (ne_eqb r (0 + k) (λ q. h (omega arith)))

  pub none_fails : k ≤ r → every p 0 k ≡ true
  unfolding every
  none_fails h =
      let w : r ≤ k = omega (arith, (found (λ i. not (p i)) 0 k).within) in rw (← e) (eq-eqb r (0 + k) (omega arith))

pub every_cong : (p q : ℕ → Bool) (i k : ℕ) → ((j : ℕ) → i ≤ j → j < i + k → p j ≡ q j) → every p i k ≡ every q i k
unfolding every
every_cong p q i k e = ap (λ r. eqb r (i + k)) (find_cong (λ v. not (p v)) (λ v. not (q v)) i k (λ j h l. ap not (e j h l)))

more_by : (p : ℕ → Bool) (i k : ℕ) (a b : Bool) → every p i k ≡ a → p (i + k) ≡ b → every p i (k + 1) ≡ (a && b)
more_by p i k true true ea eb =
    every_intro p i (k + 1)
    (λ j h l. ⊎_elim (λ e. ap p e ∙ eb) (λ m. every_at p i k ea j h (omega arith)) (eq-or-lt_of_le {n = j} {m = i + k} (omega arith)))
more_by p i k true false ea eb = every_fails p i (k + 1) (i + k) (omega arith) (omega arith) eb
more_by p i k false b ea eb =
    let f = first_failure p i k ea in
    every_fails p i (k + 1) _ (found (λ v. not (p v)) i k).from (omega (arith, f.0)) f.1

-- One place more, and of places from 0 on.
pub every_next : (p : ℕ → Bool) (i k : ℕ) → every p i (k + 1) ≡ (every p i k && p (i + k))
every_next p i k = more_by p i k _ _ refl refl

pub every_more : (p : ℕ → Bool) (k : ℕ) → every p 0 (k + 1) ≡ (every p 0 k && p k)
every_more p k = let z : 0 + k ≡ k = omega arith in every_next p 0 k ∙ ap (λ j. every p 0 k && p j) z

-- Places at which p holds may be left out at the end.
pub every_reach :
    (p : ℕ → Bool) (i k n : ℕ) → k ≤ n → ((j : ℕ) → i + k ≤ j → j < i + n → p j ≡ true) → every p i k ≡ every p i n
every_reach p i k n h after =
    ⊎_elim
    (λ t.
    t ∙
    sym
    (every_intro p i n
    (λ j a b. elim (dec_lt j (i + k)) [ yes l ↦ every_at p i k t j a l | no l ↦ after j (omega arith) b ])))
    (λ f.
    let w = first_failure p i k f in
    f ∙ sym (every_fails p i n _ (found (λ v. not (p v)) i k).from (omega (arith, w.0)) w.1)) (bool_cases (every p i k))

both_by : (p q : ℕ → Bool) (i k : ℕ) (a b : Bool) → every p i k ≡ a → every q i k ≡ b → every (λ v. p v && q v) i k ≡ (a && b)
both_by p q i k true true ea eb =
    every_intro (λ v. p v && q v) i k (λ j h l. rw (every_at p i k ea j h l, every_at q i k eb j h l))
both_by p q i k true false ea eb =
    let f = first_failure q i k eb in
    let h = (found (λ v. not (q v)) i k).from in
    every_fails (λ v. p v && q v) i k _ h f.0 (rw (every_at p i k ea _ h f.0, f.1))
both_by p q i k false b ea eb =
    let f = first_failure p i k ea in
    every_fails (λ v. p v && q v) i k _ (found (λ v. not (p v)) i k).from f.0 (rw f.1)

-- Two tests at all places are both of them at each.
pub every_both : (p q : ℕ → Bool) (i k : ℕ) → every (λ v. p v && q v) i k ≡ (every p i k && every q i k)
every_both p q i k = both_by p q i k _ _ refl refl

-- What holds of each place from a up to i, and of i, holds up to i + 1.
pub span_more : {P : ℕ → Type 0} (a i : ℕ) → ((m : ℕ) → a ≤ m → m < i → P m) → P i → (m : ℕ) → a ≤ m → m < i + 1 → P m
span_more {P} a i below here m h l =
    ⊎_elim (λ e. subst P (sym e) here) (λ q. below m h q) (eq-or-lt_of_le {n = m} {m = i} (omega arith))
