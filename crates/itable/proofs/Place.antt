-- The place of an i-number in a level whose numbers ascend: the entries before it are at most the i-number, the others above it. It decides both
-- the level's own answer and the slot that leads on, so which child a lookup takes is arithmetic.
use Prim.Native.Nat.{ℕ, zero, suc, ◌+◌, ◌*◌, ◌/◌, ◌≤◌, ◌<◌}
use mathlib.Core.Bool.{Bool}
use mathlib.Core.List.{List}
use mathlib.Core.Logic.{⊎_elim}
use mathlib.Core.Path.{◌≡◌, refl, sym, subst, ◌∙◌}
use native.Mathlib.Nat.{eq-or-lt_of_le}
use native.Mathlib.Omega.{arith}
use lib.Dec.{ltb, eqb}
use borrow.Author.Tests.{ltb-true, ltb-false, lt-ltb, le-ltb, le-leb, lt-leb, eq-eqb, ne_eqb}
use Rattle.search.specs.Search.{find}
use Rattle.search.proofs.Search.{Found, found, find_at, find_none}
use Rattle.itable.specs.Table.{Level, above}
use Rattle.itable.specs.Lookup.{absent, entry_in, last_at_most}
use Rattle.itable.specs.Lookup as lookup

abbrev pub Ascends : Level → Type 0
Ascends L = (j : ℕ) → suc j < L.count → L.number j < L.number (suc j)

pub ascends_lt : (L : Level) → Ascends L → (a b : ℕ) → a < b → b < L.count → L.number a < L.number b
ascends_lt L s a zero h l = absurd (omega arith)
ascends_lt L s a (suc b) h l =
    ⊎_elim (λ e. rw e (s b l)) (λ g. let r : L.number a < L.number b = ascends_lt L s a b g (omega arith) in omega (arith, s b l))
    (eq-or-lt_of_le {n = a} {m = b} (omega arith))

pub above_ascends : (κ : ℕ) (L : Level) → Ascends L → Ascends (above κ L)
unfolding above
above_ascends κ L s = λ j h. ascends_lt L s (16 * j) (16 * suc j) (omega arith) (omega arith)

pub record Place (L : Level) (i p : ℕ) : Type 0 where
  pub within : p ≤ L.count
  pub low : (j : ℕ) → j < p → L.number j ≤ i
  pub high : (j : ℕ) → p ≤ j → j < L.count → i < L.number j

pub place_of : (L : Level) → Ascends L → (i : ℕ) → (p : ℕ) × Place L i p
place_of L s i =
    let t : ℕ → Bool = λ j. ltb i (L.number j) in
    let p : ℕ = find t 0 L.count in
    let f : Found t 0 L.count p = found t 0 L.count in (
      p,
      record {
        within = omega (arith, f.within);
        low = λ j h. ltb-false i (L.number j) (f.before j (omega arith) h);
        high = λ j h l.
            let g : i < L.number p = ltb-true i (L.number p) (f.hit (omega arith)) in
            ⊎_elim (λ e. subst (λ x. i < L.number x) e g)
            (λ q. let r : L.number p < L.number j = ascends_lt L s p j q l in omega arith) (eq-or-lt_of_le {n = p} {m = j} h);
      },
    )

-- The place in the level of the blocks: the block of the last entry that is at most the i-number is the last such block.
pub above_place : (κ : ℕ) (L : Level) (i p : ℕ) → 0 < L.count → Place L i p → Place (above κ L) i ((p + 15) / 16)
unfolding above
above_place κ L i p h q =
    record {
      within = omega (arith, q.within);
      low = λ j l. q.low (16 * j) (omega arith);
      high = λ j l m. q.high (16 * j) (omega arith) (omega arith);
    }

-- The slot that leads on is the last whose number is at most i, whatever stands before it; none does where all are above i.
pub last_slot :
    (f : ℕ → ℕ) (i n j : ℕ) → j < n → f j ≤ i → ((m : ℕ) → j < m → m < n → i < f m) → last_at_most f i n ≡ suc j
unfolding last_at_most
last_slot f i zero j l h above = absurd (omega arith)
last_slot f i (suc n) j l h above =
    ⊎_elim (λ e. rw (le-leb (f n) i (rw e at h), e))
    (λ m. rw (lt-leb (f n) i (above n m (omega arith))) (last_slot f i n j m h (λ k a b. above k a (omega arith))))
    (eq-or-lt_of_le {n = j} {m = n} (omega arith))

pub last_none : (f : ℕ → ℕ) (i n : ℕ) → ((j : ℕ) → j < n → i < f j) → last_at_most f i n ≡ 0
unfolding last_at_most
last_none f i zero above = refl
last_none f i (suc n) above = rw (lt-leb (f n) i (above n (omega arith))) (last_none f i n (λ j l. above j (omega arith)))

-- Where just the first q of n places are at most i.
pub last_at :
    (f : ℕ → ℕ) (i n q : ℕ) → q ≤ n → ((j : ℕ) → j < q → f j ≤ i) → ((j : ℕ) → q ≤ j → j < n → i < f j) →
    last_at_most f i n ≡ q
last_at f i n zero h lo hi = last_none f i n (λ j l. hi j (omega arith) l)
last_at f i n (suc j) h lo hi = last_slot f i n j h (lo j (omega arith)) (λ m a l. hi m a l)

-- The answer among n numbers, where j is the first that is i, and where none is.
module _ (f : ℕ → ℕ) (g : ℕ → List ℕ) (n i : ℕ) where
  -- By the first place of the number, which is past the others where it is not there.
  module _ (j : ℕ) (e : j ≡ find (λ m. eqb (f m) i) 0 n) where
    pub entry_first : j < n → entry_in f g n i ≡ lookup.found (g j)
    unfolding entry_in
    entry_first h = rw (sym e, lt-ltb j n h)

    pub entry_past : n ≤ j → entry_in f g n i ≡ absent
    unfolding entry_in
    entry_past h = rw (sym e, le-ltb j n h)

  pub entry_found : (j : ℕ) → j < n → ((m : ℕ) → m < j → f m ≡ i → ⊥) → f j ≡ i → entry_in f g n i ≡ lookup.found (g j)
  entry_found j h b e =
      let q : find (λ m. eqb (f m) i) 0 n ≡ j =
      find_at (λ m. eqb (f m) i) 0 n j (omega arith) (omega arith) (λ m _ l. ne_eqb (f m) i (b m l)) (eq-eqb (f j) i e) in
      entry_first j (sym q) h

  pub entry_absent : ((j : ℕ) → j < n → f j ≡ i → ⊥) → entry_in f g n i ≡ absent
  entry_absent b =
      let q : find (λ m. eqb (f m) i) 0 n ≡ n =
      find_none (λ m. eqb (f m) i) 0 n (λ m _ l. ne_eqb (f m) i (b m (omega arith))) ∙ omega arith in
      entry_past n (sym q) (omega arith)
