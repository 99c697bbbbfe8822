-- What tests tried in order mean: a condition under which they pass, and for each refusal a condition under which it is given. Stages are
-- joined one after the other, a later one under the conditions of those before it.
use Prim.Native.Nat.{ℕ, ◌≤◌, ◌<◌}
use mathlib.Core.Bool.{Bool, true, false, not}
use mathlib.Core.List.{List, [], ◌∷◌, ◌++◌}
use mathlib.Core.Logic.{◌⊎◌, ◌↔◌, inl, inr, ⊎_elim}
use mathlib.Core.Path.{◌≡◌, refl, sym, ap, ◌∙◌}
use native.Mathlib.Omega.{arith}
use Rattle.search.specs.Search.{find, every}
use Rattle.search.specs.First.{First, FirstPair}
use Rattle.search.specs.Pairs.{every_pair, first_low, first_high}
use Rattle.search.proofs.Bool.{not_both, bool_cases}
use Rattle.search.proofs.Search.{every_intro, every_at}
use Rattle.search.proofs.First.{first_same, first_found, first_at}
use Rattle.search.proofs.Pairs.{pairs_at, pairs_intro, first_pair, first_pair_same, first_pair_at}
use Rattle.refusal.specs.Answer.{Answer, accepted, refused, and_then}
use Rattle.refusal.specs.Order.{Step, pass, stop, unless, unless_each, in_order, tried}
use Rattle.refusal.proofs.Order.{in_stage}

-- The answer x is `a` where P holds, and the refusal n p q where Q n p q holds; one of these is the case.
pub record Means {A : Type 0} (x : Answer A) (a : A) (P : Type 0) (Q : ℕ → ℕ → ℕ → Type 0) : Type 0 where
  pub accepts : P → x ≡ accepted a
  pub refuses : {n p q : ℕ} → Q n p q → x ≡ refused n p q
  pub cases : P ⊎ ((n : ℕ) × (p : ℕ) × (q : ℕ) × Q n p q)

module _ {A : Type 0} {x : Answer A} {a : A} {P : Type 0} {Q : ℕ → ℕ → ℕ → Type 0} (M : Means x a P Q) where
  -- The answer is accepted only where P holds, and refused only where Q does.
  pub means_accepted : {b : A} → x ≡ accepted b → P × (b ≡ a)
  means_accepted {b} e =
      ⊎_elim (λ p. let h = M.accepts p in (p, cc))
      (λ w. let h = M.refuses w.3 in let z : ◌≡◌ {A = ℕ} 0 1 = cc in absurd (omega arith))
      M.cases

  pub means_refused : {n p q : ℕ} → x ≡ refused n p q → Q n p q
  means_refused {n} {p} {q} e =
      ⊎_elim (λ c. let h = M.accepts c in let z : ◌≡◌ {A = ℕ} 0 1 = cc in absurd (omega arith))
      (λ w.
      let h = M.refuses w.3 in
      let i : w.0 ≡ n = cc in let j : w.1 ≡ p = cc in let k : w.2 ≡ q = cc in rw (i, j, k) at w.3)
      M.cases

-- Tests tried by themselves.
abbrev pub Stage : List Step → Type 0 → (ℕ → ℕ → ℕ → Type 0) → Type 0
Stage ts P Q = Means (tried ts) tt P Q

-- What is given by a first stage, or under its condition by what follows.
abbrev pub Either : Type 0 → (ℕ → ℕ → ℕ → Type 0) → (ℕ → ℕ → ℕ → Type 0) → ℕ → ℕ → ℕ → Type 0
Either P Q R n p q = Q n p q ⊎ (P × R n p q)

module _ {A : Type 0} where
  pub in_append : (ts us : List Step) (a : Answer A) → in_order (ts ++ us) a ≡ in_order ts (in_order us a)
  unfolding in_order
  in_append [] us a = refl
  in_append (pass ∷ ts) us a = in_append ts us a
  in_append (stop n p q ∷ ts) us a = refl

  module _ (ts : List Step) {P : Type 0} {Q : ℕ → ℕ → ℕ → Type 0} (M : Stage ts P Q) (x : Answer A) where
    pub goes_on_to : P → in_order ts x ≡ x
    goes_on_to p = in_stage ts x ∙ ap (λ (r : Answer Unit). and_then r (λ u. x)) (M.accepts p)

    pub ends : {n p q : ℕ} → Q n p q → in_order ts x ≡ refused n p q
    ends w = in_stage ts x ∙ ap (λ (r : Answer Unit). and_then r (λ u. x)) (M.refuses w)

  -- A stage, and then the answer.
  pub concludes :
      (ts : List Step) {P : Type 0} {Q : ℕ → ℕ → ℕ → Type 0} → Stage ts P Q → (a : A) → Means (in_order ts (accepted a)) a P Q
  concludes ts M a =
      record { accepts = λ p. goes_on_to ts M (accepted a) p; refuses = λ {n} {p} {q} w. ends ts M (accepted a) w; cases = M.cases }

pub and_then_means :
    (ts us : List Step) {P P' : Type 0} {Q Q' : ℕ → ℕ → ℕ → Type 0} → Stage ts P Q → (P → Stage us P' Q') →
    Stage (ts ++ us) (P × P') (Either P Q Q')
and_then_means ts us M N =
    let split : tried (ts ++ us) ≡ in_order ts (tried us) = in_append ts us (accepted (tt {0})) in
    record {
      accepts = λ p. split ∙ (goes_on_to ts M (tried us) p.0 ∙ (N p.0).accepts p.1);
      refuses = λ {n} {p} {q} w.
          split ∙
          ⊎_elim (λ h. ends ts M (tried us) h) (λ h. goes_on_to ts M (tried us) h.0 ∙ (N h.0).refuses h.1) w;
      cases =
          ⊎_elim
          (λ p. ⊎_elim (λ r. inl (p, r)) (λ w. inr (w.0, w.1, w.2, inr (p, w.3))) (N p).cases)
          (λ w. inr (w.0, w.1, w.2, inl w.3)) M.cases;
    }

-- The one refusal i j k is given where P does not hold.
abbrev pub Unless : Type 0 → ℕ → ℕ → ℕ → ℕ → ℕ → ℕ → Type 0
Unless P i j k n p q = (P → ⊥) × (n ≡ i) × (p ≡ j) × (q ≡ k)

-- Two stages that share it.
pub merged :
    {i j k : ℕ} (ts us : List Step) {P P' : Type 0} → Stage ts P (Unless P i j k) → Stage us P' (Unless P' i j k) →
    Stage (ts ++ us) (P × P') (Unless (P × P') i j k)
merged {i} {j} {k} ts us {P} {P'} M N =
    let both = and_then_means ts us M (λ w. N) in
    record {
      accepts = both.accepts;
      refuses = λ {n} {p} {q} w.
          rw (w.1, w.2, w.3)
          (⊎_elim (λ a. absurd (w.0 a))
          (λ r.
          ⊎_elim (λ h. let e : tried (ts ++ us) ≡ refused r.0 r.1 r.2 = both.refuses r.3 in rw (h.1, h.2, h.3) at e)
          (λ h. let e : tried (ts ++ us) ≡ refused r.0 r.1 r.2 = both.refuses r.3 in rw (h.1.1, h.1.2, h.1.3) at e) r.3)
          both.cases);
      cases =
          ⊎_elim inl
          (λ r.
          inr
          (i, j, k, (⊎_elim (λ h b. h.0 b.0) (λ h b. h.1.0 b.1) r.3, refl, refl, refl)))
          both.cases;
    }

-- Tests that share a refusal.
abbrev pub alike : List Bool → ℕ → ℕ → ℕ → List Step
alike [] n p q = []
alike (b ∷ bs) n p q = unless b n p q ∷ alike bs n p q

abbrev pub AllTrue : List Bool → Type 0
AllTrue [] = Unit
AllTrue (b ∷ bs) = (b ≡ true) × AllTrue bs

alike_passes : (bs : List Bool) (i j k : ℕ) → AllTrue bs → tried (alike bs i j k) ≡ accepted tt
unfolding in_order
alike_passes [] i j k h = refl
alike_passes (true ∷ bs) i j k h = alike_passes bs i j k h.1
alike_passes (false ∷ bs) i j k h = absurd (not_both h.0 refl)

alike_stops : (bs : List Bool) (i j k : ℕ) → (AllTrue bs → ⊥) → tried (alike bs i j k) ≡ refused i j k
unfolding in_order
alike_stops [] i j k h = absurd (h tt)
alike_stops (true ∷ bs) i j k h = alike_stops bs i j k (λ a. h (refl, a))
alike_stops (false ∷ bs) i j k h = refl

all_or_not : (bs : List Bool) → AllTrue bs ⊎ (AllTrue bs → ⊥)
all_or_not [] = inl tt
all_or_not (true ∷ bs) = ⊎_elim (λ a. inl (refl, a)) (λ n. inr (λ a. n a.1)) (all_or_not bs)
all_or_not (false ∷ bs) = inr (λ a. not_both a.0 refl)

pub tests_mean :
    {P : Type 0} (bs : List Bool) (i j k : ℕ) → (AllTrue bs → P) → (P → AllTrue bs) → Stage (alike bs i j k) P (Unless P i j k)
tests_mean bs i j k to from =
    record {
      accepts = λ p. alike_passes bs i j k (from p);
      refuses = λ {n} {p} {q} w. rw (w.1, w.2, w.3) (alike_stops bs i j k (λ a. w.0 (to a)));
      cases = ⊎_elim (λ a. inl (to a)) (λ h. inr (i, j, k, (λ p. h (from p), refl, refl, refl))) (all_or_not bs);
    }

-- One test that decides P.
pub test_means : {P : Type 0} (b : Bool) (i j k : ℕ) → (b ≡ true) ↔ P → Stage (unless b i j k ∷ []) P (Unless P i j k)
test_means b i j k m = tests_mean (b ∷ []) i j k (λ t. m.0 t.0) (λ w. (m.1 w, tt))

-- A test over places, refused with the first at which it fails.
abbrev pub AtFirst : (ℕ → Type 0) → ℕ → ℕ → ℕ → ℕ → ℕ → Type 0
AtFirst P k i n p q = First P k p × (n ≡ i) × (q ≡ 0)

pub each_means :
    {P : ℕ → Type 0} (t : ℕ → Bool) (k i : ℕ) → ((j : ℕ) → j < k → t j ≡ true → P j) → ((j : ℕ) → j < k → P j → t j ≡ true) →
    Stage (unless_each t k i ∷ []) ((j : ℕ) → j < k → P j) (AtFirst P k i)
unfolding in_order
each_means {P} t k i to from =
    let all : ((j : ℕ) → j < k → P j) → every t 0 k ≡ true =
    λ h. every_intro t 0 k (λ j a b. from j (omega arith) (h j (omega arith)))
    in
    record {
      accepts = λ h. rw (all h);
      refuses = λ {n} {p} {q} w. let f = first_at t k (first_same from to w.0) in rw (f.0, f.1, w.1, w.2);
      cases =
          ⊎_elim (λ e. inl (λ j l. to j l (every_at t 0 k e j (omega arith) (omega arith))))
          (λ e. inr (i, find (λ j. not (t j)) 0 k, 0, (first_same to from (first_found t k e), refl, refl))) (bool_cases (every t 0 k));
    }

-- A test over pairs, refused with the first at which it fails.
abbrev pub AtFirstPair : (ℕ → ℕ → Type 0) → ℕ → ℕ → ℕ → ℕ → ℕ → Type 0
AtFirstPair P k i n p q = FirstPair P k p q × (n ≡ i)

pub pairs_mean :
    {P : ℕ → ℕ → Type 0} (R : ℕ → ℕ → Bool) (k i : ℕ) → ((j l : ℕ) → j < l → l ≤ k → R j l ≡ true → P j l) →
    ((j l : ℕ) → j < l → l ≤ k → P j l → R j l ≡ true) →
    Stage (unless (every_pair R k) i (first_low R k) (first_high R k) ∷ []) ((j l : ℕ) → j < l → l ≤ k → P j l) (AtFirstPair P k i)
unfolding in_order
pairs_mean {P} R k i to from =
    record {
      accepts = λ h. rw (pairs_intro R k (λ j l a b. from j l a b (h j l a b)));
      refuses = λ {n} {p} {q} w. let f = first_pair_at R k (first_pair_same from to w.0) in rw (f.0, f.1, f.2, w.1);
      cases =
          ⊎_elim (λ e. inl (λ j l a b. to j l a b (pairs_at R k e j l a b)))
          (λ e. inr (i, first_low R k, first_high R k, (first_pair_same to from (first_pair R k e), refl))) (bool_cases (every_pair R k));
    }

-- The reason R of each refusal, by that of a first test and of one test more.
module _ (R : ℕ → ℕ → ℕ → Type 0) {i j k : ℕ} where
  pub why_first : {X : Type 0} → ((X → ⊥) → R i j k) → (n p q : ℕ) → Unless X i j k n p q → R n p q
  why_first f n p q w = rw (w.1, w.2, w.3) (f w.0)

  pub why_next :
      {P X : Type 0} {Q : ℕ → ℕ → ℕ → Type 0} → ((n p q : ℕ) → Q n p q → R n p q) → (P → (X → ⊥) → R i j k) →
      (n p q : ℕ) → Either P Q (Unless X i j k) n p q → R n p q
  why_next f g n p q = ⊎_elim (f n p q) (λ w. why_first (g w.0) n p q w.1)

-- The result is the one of which T holds, and what the stages give is what the statement calls its reasons.
pub exactly :
    {A : Type 0} {x : Answer A} {a : A} {P : Type 0} {Q R : ℕ → ℕ → ℕ → Type 0} → Means x a P Q → (T : A → Type 0) → (P → T a) →
    ((b : A) → P → T b → b ≡ a) → ((n p q : ℕ) → Q n p q → R n p q) → ((n p q : ℕ) → R n p q → Q n p q) →
    ((b : A) → (x ≡ accepted b) ↔ (P × T b)) × ((n p q : ℕ) → (x ≡ refused n p q) ↔ R n p q)
exactly m T here only why given = (
  λ b. (
    λ e. let w = means_accepted m e in (w.0, rw w.1 (here w.0)),
    λ w. m.accepts w.0 ∙ ap accepted (sym (only b w.0 w.1)),
  ),
  λ n p q. (λ e. why n p q (means_refused m e), λ w. m.refuses (given n p q w)),
)
