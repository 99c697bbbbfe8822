-- A block's form means what LookupMeaning says: each of its tests decides one condition.
use Prim.Native.Nat.{ℕ, suc, ◌+◌, ◌-◌, ◌*◌, ◌≤◌, ◌<◌}
use mathlib.Core.Bool.{Bool, true, ◌&&◌, ◌||◌}
use mathlib.Core.List.{List}
use mathlib.Core.Logic.{◌↔◌, ⊎_elim}
use mathlib.Core.Path.{◌≡◌}
use native.Mathlib.Numerals.{add-one}
use native.Mathlib.Omega.{arith}
use lib.Dec.{leb, ltb, eqb}
use lib.ListN.{get_or}
use borrow.Author.Tests.{leb-true, ltb-true, eqb-true, eqb-false, le-leb, lt-ltb, eq-eqb}
use Rattle.search.proofs.Bool.{bool_cases, both_true, either_true, left_true, right_true}
use Rattle.search.proofs.Search.{every_at, every_intro}
use Rattle.search.specs.Search.{every}
use Rattle.layout.specs.Strings.{zeros}
use Rattle.itable.specs.Block.{size, kind, used, number, kind_due, used_due, ascending, unused_zero, first_due, below_bound, well_formed}
use Rattle.itable.specs.declared.Link.{Link}
use Rattle.itable.specs.LookupMeaning.{WellFormed}

-- The tests of a block's form, each as the condition that it decides.
module _ (b : List ℕ) where
  pub ascending_means : (ascending b ≡ true) ↔ ((j : ℕ) → suc j < used b → number b j < number b (suc j))
  unfolding ascending
  ascending_means = (
    λ t j l.
        let e : j + 1 ≡ suc j = add-one j in
        ltb-true (number b j) (number b (suc j))
        (rw e at (every_at (λ j. ltb (number b j) (number b (j + 1))) 0 (used b - 1) t j (omega arith) (omega arith))),
    λ f.
        every_intro (λ j. ltb (number b j) (number b (j + 1))) 0 (used b - 1)
        (λ j a l. rw (add-one j) (lt-ltb (number b j) (number b (suc j)) (f j (omega arith)))),
  )

module _ (k : Link) (b : List ℕ) where
  abbrev due : ℕ
  due = k.due

  abbrev first : ℕ
  first = k.first

  abbrev bound : ℕ
  bound = k.bound

  -- What a child owes its parent.
  abbrev tied : Bool
  tied = first_due due first b && below_bound bound b

  kind_means : (kind_due due b ≡ true) ↔ ((due ≡ 0 → (3 ≤ kind b) × (kind b ≤ 5)) × ((due ≡ 0 → ⊥) → kind b ≡ due))
  unfolding kind_due
  kind_means =
      ⊎_elim
      (λ z.
      let e = eqb-true due 0 z in (
        λ t.
            let p = both_true (leb 3 (kind b)) (leb (kind b) 5) (rw z at t) in
            (λ e. (leb-true 3 (kind b) p.0, leb-true (kind b) 5 p.1), λ n. absurd (n e)),
        λ w. let p = w.0 e in rw (z, le-leb 3 (kind b) p.0, le-leb (kind b) 5 p.1),
      ))
      (λ z.
      let n = eqb-false due 0 z in (
        λ t. (λ e. absurd (n e), λ n. eqb-true (kind b) due (rw z at t)),
        λ w. rw z (eq-eqb (kind b) due (w.1 n)),
      ))
      (bool_cases (eqb due 0))

  used_means : (used_due due b ≡ true) ↔ ((used b ≤ 16) × (used b ≡ 0 → (due ≡ 0) × (kind b ≡ 3)))
  unfolding used_due
  used_means =
      let none : Bool = eqb due 0 && eqb (kind b) 3 in (
        λ t.
            let p = both_true (leb (used b) 16) (leb 1 (used b) || none) t in (
              leb-true (used b) 16 p.0,
              λ e.
                  ⊎_elim (λ s. absurd (omega (arith, leb-true 1 (used b) s)))
                  (λ s. let q = both_true (eqb due 0) (eqb (kind b) 3) s in (eqb-true due 0 q.0, eqb-true (kind b) 3 q.1))
                  (either_true (leb 1 (used b)) none p.1),
            ),
        λ w.
            rw (le-leb (used b) 16 w.0)
            (⊎_elim
            (λ z.
            let p = w.1 (eqb-true (used b) 0 z) in
            right_true (leb 1 (used b)) none (rw (eq-eqb due 0 p.0, eq-eqb (kind b) 3 p.1)))
            (λ z. let n = eqb-false (used b) 0 z in left_true (leb 1 (used b)) none (le-leb 1 (used b) (omega arith)))
            (bool_cases (eqb (used b) 0))),
      )

  zero_means : used b ≤ 16 → (unused_zero b ≡ true) ↔ ((x : ℕ) → 2 + 40 * used b ≤ x → x < size → get_or b x 0 ≡ 0)
  unfolding unused_zero zeros
  zero_means few = (
    λ t x a l.
        eqb-true (get_or b x 0) 0
        (every_at (λ x. eqb (get_or b x 0) 0) (2 + 40 * used b) (640 - 40 * used b) t x a (omega arith)),
    λ f.
        every_intro (λ x. eqb (get_or b x 0) 0) (2 + 40 * used b) (640 - 40 * used b)
        (λ x a l. eq-eqb (get_or b x 0) 0 (f x a (omega arith))),
  )

  first_means : (first_due due first b ≡ true) ↔ ((due ≡ 0 → ⊥) → number b 0 ≡ first)
  unfolding first_due
  first_means = (
    λ t n.
        ⊎_elim (λ z. absurd (n (eqb-true due 0 z))) (eqb-true (number b 0) first)
        (either_true (eqb due 0) (eqb (number b 0) first) t),
    λ f.
        ⊎_elim (left_true (eqb due 0) (eqb (number b 0) first))
        (λ z. right_true (eqb due 0) (eqb (number b 0) first) (eq-eqb (number b 0) first (f (eqb-false due 0 z))))
        (bool_cases (eqb due 0)),
  )

  below_means : (below_bound bound b ≡ true) ↔ ((bound ≡ 0 → ⊥) → (j : ℕ) → j < used b → number b j < bound)
  unfolding below_bound
  below_means =
      let all : Bool = every (λ j. ltb (number b j) bound) 0 (used b) in (
        λ t n j l.
            ⊎_elim (λ z. absurd (n (eqb-true bound 0 z)))
            (λ e. ltb-true (number b j) bound (every_at (λ j. ltb (number b j) bound) 0 (used b) e j (omega arith) (omega arith)))
            (either_true (eqb bound 0) all t),
        λ f.
            ⊎_elim (left_true (eqb bound 0) all)
            (λ z.
            right_true (eqb bound 0) all
            (every_intro (λ j. ltb (number b j) bound) 0 (used b)
            (λ j a l. lt-ltb (number b j) bound (f (eqb-false bound 0 z) j (omega arith)))))
            (bool_cases (eqb bound 0)),
      )

  pub formed_means : (well_formed k b ≡ true) ↔ WellFormed k b
  unfolding well_formed
  formed_means = (
    λ t.
        let p = both_true (kind_due due b) (used_due due b && (ascending b && (unused_zero b && tied))) t in
        let q = both_true (used_due due b) (ascending b && (unused_zero b && tied)) p.1 in
        let r = both_true (ascending b) (unused_zero b && tied) q.1 in
        let s = both_true (unused_zero b) tied r.1 in
        let v = both_true (first_due due first b) (below_bound bound b) s.1 in
        let c = kind_means.0 p.0 in
        let u = used_means.0 q.0 in
        record {
          root_kind = c.0;
          child_kind = c.1;
          at_most = u.0;
          empty = u.1;
          ascending = (ascending_means b).0 r.0;
          unused_is_zero = (zero_means u.0).0 s.0;
          first_number = first_means.0 v.0;
          below = below_means.0 v.1;
        },
    λ w.
        rw (
          kind_means.1 (w.root_kind, w.child_kind),
          used_means.1 (w.at_most, w.empty),
          (ascending_means b).1 w.ascending,
          (zero_means w.at_most).1 w.unused_is_zero,
          first_means.1 w.first_number,
          below_means.1 w.below,
        ),
  )
