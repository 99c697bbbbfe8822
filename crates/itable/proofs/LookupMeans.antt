-- A lookup means what LookupMeaning says: at each block it ends or leads on, and either the path says what the i-number has or it fails.
use Prim.Native.Nat.{ℕ, zero, suc, ◌+◌, ◌*◌, ◌<◌}
use mathlib.Core.Bool.{Bool, true, false}
use mathlib.Core.List.{List, [], ◌∷◌}
use mathlib.Core.Logic.{◌⊎◌, ◌↔◌, inl, inr, ⊎_elim}
use mathlib.Core.Path.{◌≡◌, refl, sym, ap, ◌∙◌}
use native.Mathlib.Nat.{eq-or-lt_of_le}
use native.Mathlib.Omega.{arith}
use lib.Dec.{leb, eqb}
use lib.ListN.{length}
use borrow.Author.Tests.{leb-true, leb-false, eqb-true, eqb-false, le-leb, eq-eqb}
use Rattle.layout.specs.Bytes.{part, parts}
use Rattle.layout.specs.Strings.{same}
use Rattle.search.proofs.Bool.{bool_cases, not_both}
use Rattle.search.proofs.First.{not_holding}
use Rattle.search.proofs.Search.{span_more}
use Rattle.layout.proofs.Strings.{same_true, same_refl, same_false, differ_same}
use Rattle.refusal.specs.Answer.{Answer, accepted, refused}
use Rattle.refusal.specs.Order.{in_order}
use Rattle.refusal.proofs.Means.{Stage, Unless, tests_mean, goes_on_to, ends as stage-ends}
use Rattle.sha256.specs.Sha256.{sha256}
use Rattle.itable.specs.Block.{size, kind, used, number, value, to_root, to_child, well_formed}
use Rattle.itable.specs.declared.Link.{Link}
use Rattle.itable.specs.Lookup.{Entry, found, absent, known, answer_at, consult, path_steps, lookup}
use Rattle.itable.specs.LookupMeaning.{Sizes, WellFormed, Passes, Ends, in_leaf, not_in_leaf, none_leads, Leads, Says, ends, leads, LookupMeans}
use Rattle.itable.specs.LookupMeaning.{Fails, missing, wrong_hash, malformed, left_over, later, Why, lengths, along}
use Rattle.itable.proofs.Place.{ascends_lt, last_slot, last_none, entry_found, entry_absent}
use Rattle.itable.proofs.Consult as consulting
use Rattle.itable.proofs.BlockMeaning.{formed_means}
use Rattle.itable.proofs.BlockBound.{slots_of}

-- The last of n places at which a test holds, or that there is none.
last_place :
    (t : ℕ → Bool) (n : ℕ) →
    ((j : ℕ) × (j < n) × (t j ≡ true) × ((m : ℕ) → j < m → m < n → t m ≡ false)) ⊎ ((j : ℕ) → j < n → t j ≡ false)
last_place t zero = inr (λ j l. absurd (omega arith))
last_place t (suc n) =
    ⊎_elim (λ h. inl (n, omega arith, h, λ m a b. absurd (omega arith)))
    (λ h.
    ⊎_elim (λ w. inl (w.0, omega (arith, w.1), w.2, λ m a b. span_more {P = λ k. t k ≡ false} (suc w.0) n w.3 h m a (omega arith)))
    (λ f. inr (λ j l. span_more {P = λ k. t k ≡ false} 0 n (λ m a b. f m b) h j (omega arith) (omega arith))) (last_place t n))
    (bool_cases (t n))

module _ (b : List ℕ) (i : ℕ) where
  -- A block ends the lookup or leads on.
  ends_or_leads : ((e : Entry) × Ends b i e) ⊎ ((j : ℕ) × Leads b i j)
  ends_or_leads =
      ⊎_elim
      (λ k.
      let leaf : kind b ≡ 3 = eqb-true (kind b) 3 k in
      inl
      (⊎_elim (λ w. (found (value b w.0), in_leaf w.0 leaf w.1 (eqb-true (number b w.0) i w.2)))
      (λ f. (absent, not_in_leaf leaf (λ j l. eqb-false (number b j) i (f j l))))
      (last_place (λ j. eqb (number b j) i) (used b))))
      (λ k.
      let inner : kind b ≡ 3 → ⊥ = eqb-false (kind b) 3 k in
      ⊎_elim
      (λ w.
      inr (
        w.0,
        record {
          inner = inner;
          is_used = w.1;
          at_most = leb-true (number b w.0) i w.2;
          last = λ m a l. leb-false (number b m) i (w.3 m a l);
        },
      ))
      (λ f. inl (absent, none_leads inner (λ j l. leb-false (number b j) i (f j l))))
      (last_place (λ j. leb (number b j) i) (used b)))
      (bool_cases (eqb (kind b) 3))

  module _ (left d : ℕ) (on : ℕ → Answer Entry) where
    ends_answer : (k : Link) → WellFormed k b → (e : Entry) → Ends b i e → answer_at b i left d on ≡ known left d e
    ends_answer k w e (in_leaf j leaf l q) =
        consulting.answer_leaf b i left d on leaf ∙
        ap (known left d)
        (entry_found (number b) (value b) (used b) i j l (λ m h r. let a = ascends_lt (slots_of b) w.ascending m j h l in omega arith) q)
    ends_answer k w e (not_in_leaf leaf f) =
        consulting.answer_leaf b i left d on leaf ∙ ap (known left d) (entry_absent (number b) (value b) (used b) i f)
    ends_answer k w e (none_leads inner f) =
        consulting.answer_none b i left d on inner (last_none (number b) i (used b) f)

    leads_answer : (j : ℕ) → Leads b i j → answer_at b i left d on ≡ on j
    leads_answer j w =
        consulting.answer_on b i left d on j w.inner (last_slot (number b) i (used b) j w.is_used w.at_most w.last)

module _ (path : List ℕ) (i : ℕ) where
  module _ (left d : ℕ) (k : Link) where
    abbrev block : List ℕ
    block = part size path d

    -- Block d does not pass, or it does.
    fails_hash : same (sha256 block) k.hash ≡ false → consult path i (suc left) d k ≡ refused 8 d 0
    unfolding consult in_order
    fails_hash e = rw e

    fails_form : sha256 block ≡ k.hash → well_formed k block ≡ false → consult path i (suc left) d k ≡ refused 3 d 0
    unfolding consult in_order
    fails_form e f = rw (f, ← e, same_refl (sha256 block))

    module _ (w : Passes path d k) where
      passes : consult path i (suc left) d k ≡ answer_at block i left (suc d) (consulting.along path i left d k block)
      passes =
          consulting.consulted path i left d k block refl w.hashed ((formed_means k block).1 w.formed)

      passes_ends : (e : Entry) → Ends block i e → consult path i (suc left) d k ≡ known left (suc d) e
      passes_ends e f =
          passes ∙ ends_answer block i left (suc d) (consulting.along path i left d k block) k w.formed e f

      passes_leads : (j : ℕ) → Leads block i j → consult path i (suc left) d k ≡ consult path i left (suc d) (to_child k block j)
      passes_leads j l = passes ∙ leads_answer block i left (suc d) (consulting.along path i left d k block) j l

  says_from : (d : ℕ) (k : Link) (e : Entry) (left : ℕ) → d + left ≡ parts size path → Says path i d k e → consult path i left d k ≡ accepted e
  says_from d k e zero h (ends w f l) = absurd (omega arith)
  says_from d k e (suc left) h (ends w f l) = let z : left ≡ 0 = omega arith in passes_ends left d k w e f ∙ rw z
  says_from d k e zero h (leads j w l s) = absurd (omega (arith, w.there))
  says_from d k e (suc left) h (leads j w l s) =
      passes_leads left d k w j l ∙ says_from (suc d) (to_child k (part size path d) j) e left (omega arith) s

  fails_from :
      (d : ℕ) (k : Link) (n p left : ℕ) → d + left ≡ parts size path → Fails path i d k n p → consult path i left d k ≡ refused n p 0
  unfolding consult
  fails_from d k n p zero h (missing e) = refl
  fails_from d k n p (suc left) h (missing e) = absurd (omega arith)
  fails_from d k n p zero h (wrong_hash l f) = absurd (omega arith)
  fails_from d k n p (suc left) h (wrong_hash l f) = fails_hash left d k (differ_same (sha256 (part size path d)) k.hash f)
  fails_from d k n p zero h (malformed l e f) = absurd (omega arith)
  fails_from d k n p (suc left) h (malformed l e f) =
      let b : List ℕ = part size path d in
      fails_form left d k e
      (not_holding (well_formed k b) (λ t. f ((formed_means k b).0 t)))
  fails_from d k n p zero h (left_over e w f l) = absurd (omega arith)
  fails_from d k n p (suc zero) h (left_over e w f l) = absurd (omega arith)
  fails_from d k n p (suc (suc left)) h (left_over e w f l) = passes_ends (suc left) d k w e f
  fails_from d k n p zero h (later j w l s) = absurd (omega (arith, w.there))
  fails_from d k n p (suc left) h (later j w l s) =
      passes_leads left d k w j l ∙ fails_from (suc d) (to_child k (part size path d) j) n p left (omega arith) s

  -- One of both is the case.
  says_or_fails :
      (d : ℕ) (k : Link) (left : ℕ) → d + left ≡ parts size path →
      ((e : Entry) × Says path i d k e) ⊎ ((n : ℕ) × (p : ℕ) × Fails path i d k n p)
  says_or_fails d k zero h = let e : d ≡ parts size path = omega arith in inr (9, d, missing e)
  says_or_fails d k (suc left) h =
      let b : List ℕ = part size path d in
      let there : d < parts size path = omega arith in
      ⊎_elim
      (λ e.
      let hashed : sha256 b ≡ k.hash = same_true (sha256 b) k.hash e in
      ⊎_elim
      (λ f.
      let w : Passes path d k = record { there = there; hashed = hashed; formed = (formed_means k b).0 f } in
      ⊎_elim
      (λ x.
      ⊎_elim (λ z. inl (x.0, ends w x.1 (omega arith))) (λ l. inr (9, suc d, left_over x.0 w x.1 (omega arith)))
      (eq-or-lt_of_le {n = 0} {m = left} (omega arith)))
      (λ x.
      ⊎_elim (λ s. inl (s.0, leads x.0 w x.1 s.1)) (λ s. inr (s.0, s.1, later x.0 w x.1 s.2))
      (says_or_fails (suc d) (to_child k b x.0) left (omega arith)))
      (ends_or_leads b i))
      (λ f. inr (3, d, malformed there hashed (λ w. not_both ((formed_means k b).1 w) f)))
      (bool_cases (well_formed k b)))
      (λ e. inr (8, d, wrong_hash there (same_false (sha256 b) k.hash e)))
      (bool_cases (same (sha256 b) k.hash))

module _ (handle : List ℕ) (i : ℕ) (path : List ℕ) where
  abbrev blocks : ℕ
  blocks = parts size path

  sizes_stage : Stage (path_steps handle path) (Sizes handle path) (Unless (Sizes handle path) 2 0 0)
  unfolding path_steps
  sizes_stage =
      tests_mean (eqb (length handle) 32 ∷ eqb (size * blocks) (length path) ∷ leb 1 blocks ∷ leb blocks 3 ∷ []) 2 0 0
      (λ t.
      record {
        handle_long = eqb-true (length handle) 32 t.0;
        whole = eqb-true (size * blocks) (length path) t.1.0;
        some = leb-true 1 blocks t.1.1.0;
        few = leb-true blocks 3 t.1.1.1.0;
      })
      (λ w. (
        eq-eqb (length handle) 32 w.handle_long,
        (eq-eqb (size * blocks) (length path) w.whole, (le-leb 1 blocks w.some, (le-leb blocks 3 w.few, tt))),
      ))

  abbrev walk : Answer Entry
  walk = consult path i blocks 0 (to_root handle)

  sized : Sizes handle path → lookup handle i path ≡ walk
  unfolding lookup
  sized = goes_on_to (path_steps handle path) sizes_stage walk

  unsized : (Sizes handle path → ⊥) → lookup handle i path ≡ refused 2 0 0
  unfolding lookup
  unsized f = stage-ends (path_steps handle path) sizes_stage walk (f, refl, refl, refl)

  -- Each of the three ways, with what the lookup answers there.
  ways :
      {A : Type 0} → ((Sizes handle path → ⊥) → lookup handle i path ≡ refused 2 0 0 → A) →
      ((e : Entry) → Sizes handle path → Says path i 0 (to_root handle) e → lookup handle i path ≡ accepted e → A) →
      ((n p : ℕ) → Sizes handle path → Fails path i 0 (to_root handle) n p → lookup handle i path ≡ refused n p 0 → A) → A
  ways un says fails =
      ⊎_elim
      (λ w.
      ⊎_elim (λ s. says s.0 w s.1 (sized w ∙ says_from path i 0 (to_root handle) s.0 blocks (omega arith) s.1))
      (λ s. fails s.0 s.1 w s.2 (sized w ∙ fails_from path i 0 (to_root handle) s.0 s.1 blocks (omega arith) s.2))
      (says_or_fails path i 0 (to_root handle) blocks (omega arith)))
      (λ w. un w.3.0 (unsized w.3.0)) sizes_stage.cases

  apart : {A : Type 0} {e : Entry} {n p q : ℕ} → accepted e ≡ refused n p q → A
  apart e = let z : ◌≡◌ {A = ℕ} 0 1 = cc in absurd (omega arith)

  accepts : (e : Entry) → (lookup handle i path ≡ accepted e) ↔ (Sizes handle path × Says path i 0 (to_root handle) e)
  accepts e = (
    λ h.
        ways (λ f g. apart (sym h ∙ g))
        (λ a w s g. let q : accepted a ≡ accepted e = sym g ∙ h in let r : a ≡ e = cc in (w, rw r at s))
        (λ n p w s g. apart (sym h ∙ g)),
    λ w. sized w.0 ∙ says_from path i 0 (to_root handle) e blocks (omega arith) w.1,
  )

  why : (n p q : ℕ) → lookup handle i path ≡ refused n p q → Why handle i path n p q
  why n p q h =
      ways
      (λ f g.
      let x : ◌≡◌ {A = Answer Entry} (refused n p q) (refused 2 0 0) = sym h ∙ g in
      let a : n ≡ 2 = cc in let b : p ≡ 0 = cc in let c : q ≡ 0 = cc in rw (a, b, c) (lengths f))
      (λ a w s g. apart (sym g ∙ h))
      (λ m o w s g.
      let x : ◌≡◌ {A = Answer Entry} (refused n p q) (refused m o 0) = sym h ∙ g in
      let a : n ≡ m = cc in let b : p ≡ o = cc in let c : q ≡ 0 = cc in rw (a, b, c) (along w s))

  refuses : (n p q : ℕ) → Why handle i path n p q → lookup handle i path ≡ refused n p q
  refuses n p q (lengths f) = unsized f
  refuses n p q (along w s) = sized w ∙ fails_from path i 0 (to_root handle) n p blocks (omega arith) s

pub lookup_means : LookupMeans
lookup_means handle i path = (accepts handle i path, λ n p q. (why handle i path n p q, refuses handle i path n p q))
