-- The tests of the client's check, each as the condition that it decides.
use Prim.Native.Nat.{ℕ, zero, suc, ◌+◌, ◌-◌, ◌*◌, ◌≤◌, ◌<◌}
use mathlib.Core.Bool.{Bool, true, false, not, ◌&&◌, ◌||◌}
use mathlib.Core.List.{List, [], ◌∷◌}
use mathlib.Core.Logic.{◌⊎◌, ◌↔◌, inl, inr, ⊎_elim}
use mathlib.Core.Path.{◌≡◌, refl, sym, ap, ◌∙◌}
use native.Mathlib.Decide.{dec_lt}
use native.Mathlib.Nat.{eq-or-lt_of_le}
use native.Mathlib.Omega.{arith}
use lib.Dec.{ltb, eqb}
use lib.ListN.{length}
use borrow.Author.Tests.{ltb-true, eqb-true, eqb-false, lt-ltb, le-ltb, eq-eqb, ne_eqb, not-true}
use Rattle.search.specs.Search.{every, find}
use Rattle.search.proofs.Bool.{bool_cases, both_true, either_true, left_true, right_true}
use Rattle.search.proofs.Search.{every_at, every_intro, first_failure, find_at}
use Rattle.layout.proofs.Bytes.{four_past}
use Rattle.layout.proofs.Strings.{same_true, same_refl}
use Rattle.layout.proofs.Parts.{length_of_part}
use Rattle.protocol.specs.Version.{size, kind, owner, count, own, well_formed, counts_before, counts_strictly_before, at_or_before, strictly_before}
use Rattle.protocol.specs.List.{records, record_at, entry, well_placed}
use Rattle.protocol.specs.Check.{remembers, current, ordered}
use Rattle.protocol.specs.Meaning.{WellFormed, StrictlyBefore, StrictlyBeforeCounts, Remembered, WellPlaced, Current, Ordered}
use Rattle.protocol.proofs.Version.{at_most, at_most_intro, before_at, before_intro, strictly_intro}
use Rattle.protocol.proofs.List.{entry_cases}

pub both_intro : (a b : Bool) → a ≡ true → b ≡ true → (a && b) ≡ true
both_intro a b p q = rw (p, q)

pub no_bytes : (x : List ℕ) → length x ≡ 0 → x ≡ []
no_bytes [] e = refl
no_bytes (b ∷ x) e = absurd (omega arith)

pub well_formed_means : (N : ℕ) (x : List ℕ) → (well_formed N x ≡ true) ↔ WellFormed N x
unfolding well_formed
well_formed_means N x =
    let last : Bool = every (λ v. eqb (count x v) 0) N (16 - N) in (
      λ e.
          let p = both_true (eqb (kind x) 1) (ltb (owner x) N && (not (eqb (own x) 0) && last)) e in
          let q = both_true (ltb (owner x) N) (not (eqb (own x) 0) && last) p.1 in
          let r = both_true (not (eqb (own x) 0)) last q.1 in
          record {
            kind_one = eqb-true (kind x) 1 p.0;
            owner_below = ltb-true (owner x) N q.0;
            own_counted = eqb-false (own x) 0 (not-true (eqb (own x) 0) r.0);
            others_zero = λ v h l. eqb-true (count x v) 0 (every_at (λ w. eqb (count x w) 0) N (16 - N) r.1 v h (omega arith));
          },
      λ w.
          rw (
            eq-eqb (kind x) 1 w.kind_one,
            lt-ltb (owner x) N w.owner_below,
            ne_eqb (own x) 0 w.own_counted,
            every_intro (λ v. eqb (count x v) 0) N (16 - N) (λ v a b. eq-eqb (count x v) 0 (w.others_zero v a (omega arith))),
          ),
    )

-- The owner of a well formed structure is a user below 16: a later place has no count.
pub owner_below : (N : ℕ) (x : List ℕ) → length x ≡ size → well_formed N x ≡ true → owner x < 16
owner_below N x h w =
    elim (dec_lt (owner x) 16) [
      | yes l ↦ l
      | no g ↦ absurd (((well_formed_means N x).0 w).own_counted (four_past x (34 + 4 * owner x) (omega arith)))
    ]

pub strictly_counts : (x : List ℕ) (g : ℕ → ℕ) → (counts_strictly_before (count x) g ≡ true) ↔ StrictlyBeforeCounts x g
unfolding counts_strictly_before
strictly_counts x g =
    let f : ℕ → ℕ = count x in
    let same : Bool = every (λ v. eqb (f v) (g v)) 0 16 in (
      λ e.
          let p = both_true (counts_before f g) (not same) e in
          let m = first_failure (λ v. eqb (f v) (g v)) 0 16 (not-true same p.1) in
          let v : ℕ = find (λ w. not (eqb (f w) (g w))) 0 16 in
          (at_most f g p.0, (v, omega (arith, m.0), eqb-false (f v) (g v) m.1)),
      λ w.
          let v : ℕ = w.1.0 in
          let h = w.0 v w.1.1 in
          let ne = w.1.2 in
          strictly_intro f g (at_most_intro f g w.0) v w.1.1 (⊎_elim (λ e. absurd (ne e)) (λ l. l) (eq-or-lt_of_le h)),
    )

pub strictly_means : (x y : List ℕ) → (strictly_before x y ≡ true) ↔ StrictlyBefore x y
strictly_means x y = strictly_counts x (count y)

pub none_or_one : (mem : List ℕ) → ((eqb (length mem) 0 || eqb (length mem) size) ≡ true) ↔ ((length mem ≡ 0) ⊎ (length mem ≡ size))
none_or_one mem = (
  λ t.
      ⊎_elim (λ e. inl (eqb-true (length mem) 0 e)) (λ e. inr (eqb-true (length mem) size e))
      (either_true (eqb (length mem) 0) (eqb (length mem) size) t),
  λ w.
      ⊎_elim (λ e. left_true (eqb (length mem) 0) (eqb (length mem) size) (eq-eqb (length mem) 0 e))
      (λ e. right_true (eqb (length mem) 0) (eqb (length mem) size) (eq-eqb (length mem) size e)) w,
)

pub remembers_means : (N u : ℕ) (mem : List ℕ) → (remembers N u mem ≡ true) ↔ Remembered N u mem
unfolding remembers
remembers_means N u mem =
    let own-one : Bool = well_formed N mem && eqb (owner mem) u in (
      λ e.
          ⊎_elim (λ z. inl (no_bytes mem (eqb-true (length mem) 0 z)))
          (λ f.
          let p = both_true (well_formed N mem) (eqb (owner mem) u) f in
          inr ((well_formed_means N mem).0 p.0, eqb-true (owner mem) u p.1))
          (either_true (eqb (length mem) 0) own-one e),
      λ w.
          ⊎_elim (λ z. left_true (eqb (length mem) 0) own-one (eq-eqb (length mem) 0 (ap length z)))
          (λ f.
          right_true (eqb (length mem) 0) own-one
          (both_intro (well_formed N mem) (eqb (owner mem) u) ((well_formed_means N mem).1 f.0) (eq-eqb (owner mem) u f.1)))
          w,
    )

pub well_placed_means : (N : ℕ) (list : List ℕ) (i : ℕ) → (well_placed N list i ≡ true) ↔ WellPlaced N list i
unfolding well_placed
well_placed_means N list i =
    let above : Bool = ltb (owner (record_at list (i - 1))) (owner (record_at list i)) in (
      λ e.
          let p = both_true (well_formed N (record_at list i)) (eqb i 0 || above) e in (
            (well_formed_means N (record_at list i)).0 p.0,
            λ l.
                ⊎_elim (λ z. let h : i ≡ 0 = eqb-true i 0 z in absurd (omega arith))
                (λ a. ltb-true (owner (record_at list (i - 1))) (owner (record_at list i)) a) (either_true (eqb i 0) above p.1),
          ),
      λ w.
          both_intro (well_formed N (record_at list i)) (eqb i 0 || above) ((well_formed_means N (record_at list i)).1 w.0)
          (⊎_elim (λ z. left_true (eqb i 0) above z)
          (λ n.
          right_true (eqb i 0) above
          (lt-ltb (owner (record_at list (i - 1))) (owner (record_at list i))
          (w.1 (let ne : i ≡ 0 → ⊥ = eqb-false i 0 n in ⊎_elim (λ z. absurd (ne (sym z))) (λ l. l) (eq-or-lt_of_le {n = 0} {m = i} (omega arith))))))
          (bool_cases (eqb i 0))),
    )

pub ordered_means : (list : List ℕ) (new : ℕ → ℕ) (i j : ℕ) → j ≤ records list → (ordered list new i j ≡ true) ↔ Ordered list new i j
unfolding ordered
ordered_means list new i j h =
    let x : List ℕ = record_at list i in
    let y : List ℕ = record_at list j in
    ⊎_elim
    (λ (e : j ≡ records list).
    let t : ltb j (records list) ≡ false = le-ltb j (records list) (omega arith) in (
      λ o. (λ l. absurd (omega arith), λ z. (strictly_counts x new).0 (rw t at o)),
      λ w. rw t ((strictly_counts x new).1 (w.1 e)),
    ))
    (λ (l : j < records list).
    let t : ltb j (records list) ≡ true = lt-ltb j (records list) l in (
      λ o. (
        λ m. ⊎_elim (λ b. inl (before_at x y b)) (λ b. inr (before_at y x b)) (either_true (at_or_before x y) (at_or_before y x) (rw t at o)),
        λ z. absurd (omega arith),
      ),
      λ w.
          rw t
          (⊎_elim (λ b. left_true (at_or_before x y) (at_or_before y x) (before_intro x y b))
          (λ b. right_true (at_or_before x y) (at_or_before y x) (before_intro y x b)) (w.0 l)),
    ))
    (eq-or-lt_of_le h)

-- In a list of whole records with ascending owners, a record is its owner's entry.
module _ (N : ℕ) (list : List ℕ) (whole : size * records list ≡ length list) (placed : (i : ℕ) → i < records list → WellPlaced N list i) where
  ascending : (i j : ℕ) → i < j → j < records list → owner (record_at list i) < owner (record_at list j)
  ascending i zero l h = absurd (omega arith)
  ascending i (suc j) l h =
      let e : suc j - 1 ≡ j = omega arith in
      let step : owner (record_at list j) < owner (record_at list (suc j)) = rw e at ((placed (suc j) h).1 (omega arith)) in
      ⊎_elim (λ q. rw q step) (λ m. let g = ascending i j m (omega arith) in omega arith) (eq-or-lt_of_le {n = i} {m = j} (omega arith))

  pub entry_at : (i : ℕ) → i < records list → entry list (owner (record_at list i)) ≡ record_at list i
  unfolding entry
  entry_at i l =
      let e : find (λ j. eqb (owner (record_at list j)) (owner (record_at list i))) 0 (records list) ≡ i =
      find_at (λ j. eqb (owner (record_at list j)) (owner (record_at list i))) 0 (records list) i (omega arith) (omega arith)
      (λ j a b. ne_eqb (owner (record_at list j)) (owner (record_at list i)) (λ q. let g = ascending j i b l in omega arith))
      (eq-eqb (owner (record_at list i)) (owner (record_at list i)) refl)
      in
      rw e

  listed_entry : (u : ℕ) (mem : List ℕ) → Current u mem list → entry list u ≡ [] → mem ≡ []
  listed_entry u [] w e = refl
  listed_entry u (b ∷ mem) w e =
      let m = w.is_listed (λ z. let y = ap length z in omega arith) in
      let r : record_at list m.0 ≡ [] = sym (entry_at m.0 m.1) ∙ rw m.2 e in
      let y : length (record_at list m.0) ≡ 0 = rw r in
      let z : length (record_at list m.0) ≡ size = length_of_part size list m.0 (omega (arith, m.1)) in absurd (omega arith)

  pub current_means : (u : ℕ) (mem : List ℕ) → (current u mem list ≡ true) ↔ Current u mem list
  unfolding current
  current_means u mem = (
    λ t.
        let e : entry list u ≡ mem = same_true (entry list u) mem t in
        record {
          same_bytes = λ i l o. sym (entry_at i l) ∙ rw o e;
          is_listed = λ n.
              ⊎_elim (λ z. absurd (n (sym e ∙ z))) (λ r. (r.0, r.1, r.2)) (entry_cases list whole u);
        },
    λ w.
        let e : entry list u ≡ mem =
        ⊎_elim (λ z. z ∙ sym (listed_entry u mem w z)) (λ r. sym r.3 ∙ w.same_bytes r.0 r.1 r.2) (entry_cases list whole u)
        in
        rw e (same_refl mem),
  )
