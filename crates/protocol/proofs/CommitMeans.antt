-- A commit means what CommitMeaning says: each of its tests decides one condition, and the list that it leaves is the only one that holds the
-- new record and is otherwise as it was.
use Prim.Native.Nat.{ℕ, ◌+◌, ◌*◌, ◌/◌, ◌%◌, ◌<◌}
use mathlib.Core.Bool.{Bool, true, ◌||◌}
use mathlib.Core.List.{List}
use mathlib.Core.Logic.{◌↔◌, inl, inr, ⊎_elim}
use mathlib.Core.Path.{◌≡◌, refl, sym, ap, ap₂, ◌∙◌}
use native.Mathlib.Omega.{arith}
use lib.Dec.{eqb}
use lib.ListN.{length, get_or, drop}
use lib.Seq.{ext_get_or, get_or-take, get_or-drop}
use borrow.Author.Tests.{eqb-true, eqb-false, eq-eqb}
use Rattle.layout.specs.Bytes.{part}
use Rattle.layout.proofs.Bytes.{four_past}
use Rattle.search.proofs.Bool.{bool_cases, both_true, either_true, left_true, right_true}
use Rattle.refusal.specs.Answer.{accepted}
use Rattle.refusal.proofs.Means.{Means, Either, Unless, AtFirst, means_accepted, means_refused, and_then_means, concludes, test_means, each_means}
use Rattle.protocol.specs.declared.Server.{Server}
use Rattle.protocol.specs.Version.{size, owner, count, own, well_formed, strictly_before}
use Rattle.protocol.specs.Server.{slot, held, held_own, follows, replaced, commit_steps, commit}
use Rattle.protocol.specs.Meaning.{WellFormed, StrictlyBefore}
use Rattle.protocol.specs.CommitMeaning.{Holds, HoldsNone, Long, OneMore, Follows, ToFormed, ToMarked, ToOneMore, AllConditions}
use Rattle.protocol.specs.CommitMeaning.{Why, not_long, not_formed, unmarked, not_next, unordered, Replaces, CommitMeans}
use Rattle.protocol.proofs.Conditions.{well_formed_means, owner_below, strictly_means}
use Rattle.protocol.proofs.Held.{held_own_is, held_slot, slot_same, slot_other, replaced_length}

-- What is held of a user, and its own count, 0 for none.
module _ (s : Server) (v : ℕ) where
  own_of : (y : List ℕ) → Holds s v y → held_own s v ≡ count y v
  own_of y h = held_own_is s v ∙ ap (λ (b : List ℕ). count b v) h.0

  own_none : HoldsNone s v → held_own s v ≡ 0
  own_none h = held_own_is s v ∙ h

  held_of : (y : List ℕ) → Holds s v y → held s v ≡ y
  held_of y h = held_slot s v (λ e. h.1 (rw h.0 at e)) ∙ h.0

  none_held : HoldsNone s v → length (held s v) ≡ 0
  unfolding held
  none_held h = rw h

  -- A held record is bytes.
  some_bytes : (y : List ℕ) → Holds s v y → length y ≡ 0 → ⊥
  some_bytes y h e = h.1 (four_past y (34 + 4 * v) (omega arith))

  held_or_none : {P : Type 0} → ((y : List ℕ) → Holds s v y → P) → (HoldsNone s v → P) → P
  held_or_none f g =
      ⊎_elim (λ e. g (eqb-true (count (slot s v) v) 0 e)) (λ e. f (slot s v) (refl, eqb-false (count (slot s v) v) 0 e))
      (bool_cases (eqb (count (slot s v) v) 0))

module _ (s : Server) (x : List ℕ) where
  one_more : (eqb (own x) (held_own s (owner x) + 1) ≡ true) ↔ OneMore s x
  one_more = (
    λ e.
        let o : own x ≡ held_own s (owner x) + 1 = eqb-true (own x) (held_own s (owner x) + 1) e in
        record {
          than_held = λ y h. omega (arith, own_of s (owner x) y h);
          than_none = λ h. omega (arith, own_none s (owner x) h);
        },
    λ w.
        eq-eqb (own x) (held_own s (owner x) + 1)
        (held_or_none s (owner x) (λ y h. omega (arith, w.than_held y h, own_of s (owner x) y h))
        (λ h. omega (arith, w.than_none h, own_none s (owner x) h))),
  )

  module _ (v : ℕ) where
    abbrev before : Bool
    before = eqb (length (held s v)) 0 || strictly_before (held s v) x

    abbrev counted : Bool
    counted = eqb v (owner x) || eqb (count x v) (held_own s v)

    after_held : before ≡ true → (y : List ℕ) → Holds s v y → StrictlyBefore y x
    after_held e y h =
        ⊎_elim (λ z. absurd (some_bytes s v y h (eqb-true (length y) 0 z))) (strictly_means y x).0
        (either_true (eqb (length y) 0) (strictly_before y x) (rw (held_of s v y h) at e))

    held_before : ((y : List ℕ) → Holds s v y → StrictlyBefore y x) → before ≡ true
    held_before f =
        held_or_none s v
        (λ y h.
        right_true (eqb (length (held s v)) 0) (strictly_before (held s v) x)
        (rw (held_of s v y h) ((strictly_means y x).1 (f y h))))
        (λ h. left_true (eqb (length (held s v)) 0) (strictly_before (held s v) x) (eq-eqb (length (held s v)) 0 (none_held s v h)))

    counts_own : counted ≡ true → (v ≡ owner x → ⊥) → count x v ≡ held_own s v
    counts_own e n =
        ⊎_elim (λ o. absurd (n (eqb-true v (owner x) o))) (eqb-true (count x v) (held_own s v))
        (either_true (eqb v (owner x)) (eqb (count x v) (held_own s v)) e)

    own_counted : ((v ≡ owner x → ⊥) → count x v ≡ held_own s v) → counted ≡ true
    own_counted f =
        ⊎_elim (left_true (eqb v (owner x)) (eqb (count x v) (held_own s v)))
        (λ n.
        right_true (eqb v (owner x)) (eqb (count x v) (held_own s v))
        (eq-eqb (count x v) (held_own s v) (f (eqb-false v (owner x) n))))
        (bool_cases (eqb v (owner x)))

    follows_means : (follows s x v ≡ true) ↔ Follows s x v
    unfolding follows
    follows_means = (
      λ e.
          let b = both_true before counted e in
          record {
            after_held = after_held b.0;
            counts_held = λ n y h. counts_own b.1 n ∙ own_of s v y h;
            counts_none = λ n h. counts_own b.1 n ∙ own_none s v h;
          },
      λ w.
          rw (
            held_before w.after_held,
            own_counted
                (λ n.
                held_or_none s v (λ y h. w.counts_held n y h ∙ sym (own_of s v y h))
                (λ h. w.counts_none n h ∙ sym (own_none s v h))),
          ),
    )

-- Bytes of one length with the same parts are the same.
same_parts : (xs ys : List ℕ) → length xs ≡ length ys → ((v : ℕ) → part size xs v ≡ part size ys v) → xs ≡ ys
same_parts xs ys l f =
    ext_get_or 0 xs ys l
    (λ i h.
    let e : size * (i / size) + i % size ≡ i = omega arith in
    let there : (zs : List ℕ) → get_or (part size zs (i / size)) (i % size) 0 ≡ get_or zs i 0 =
    λ zs.
    get_or-take size (drop (size * (i / size)) zs) (i % size) 0 (omega arith) ∙
    (get_or-drop (size * (i / size)) zs (i % size) 0 ∙ ap (λ k. get_or zs k 0) e)
    in
    sym (there xs) ∙ (ap (λ (p : List ℕ). get_or p (i % size) 0) (f (i / size)) ∙ there ys))

-- The list that a commit leaves is the one that holds the new record and is otherwise as it was.
module _ (s : Server) (x : List ℕ) (long : length s.records ≡ 16 * size) (w : ToFormed s x) where
  user : owner x < 16
  user = owner_below s.users x w.0 ((well_formed_means s.users x).1 w.1)

  replaces : Replaces s x (replaced s x)
  unfolding replaced
  replaces =
      record {
        same_users = refl;
        same_length = replaced_length s x long w.0 user ∙ sym long;
        now_held = (slot_same s x long w.0 user, w.1.own_counted);
        others_kept = slot_other s x long w.0 user;
      }

  only_one : (t : Server) → Replaces s x t → t ≡ replaced s x
  unfolding replaced
  only_one t r =
      let same : (v : ℕ) → slot t v ≡ slot (replaced s x) v =
      λ v.
      ⊎_elim
      (λ e.
      rw (eqb-true v (owner x) e) (r.now_held.0 ∙ sym (slot_same s x long w.0 user)))
      (λ n.
      let ne = eqb-false v (owner x) n in r.others_kept v ne ∙ sym (slot_other s x long w.0 user v ne))
      (bool_cases (eqb v (owner x)))
      in
      let e : t.records ≡ (replaced s x).records =
      same_parts t.records (replaced s x).records
      (r.same_length ∙ (long ∙ sym (replaced_length s x long w.0 user))) same in
      ap₂ (λ (u : ℕ) (b : List ℕ). record { users = u; records = b }) r.same_users e

module _ (s : Server) (x : List ℕ) (mark : ℕ) where
  -- Every way to be refused, as the stages give it.
  abbrev Given : ℕ → ℕ → ℕ → Type 0
  Given =
      Either (ToOneMore s x mark)
      (Either (ToMarked s x mark)
      (Either (ToFormed s x) (Either (Long x) (Unless (Long x) 2 0 0) (Unless (WellFormed s.users x) 3 0 0)) (Unless (mark ≡ 1) 4 0 0))
      (Unless (OneMore s x) 5 0 0))
      (AtFirst (Follows s x) 16 7)

  commit_stages : Means (commit s x mark) (replaced s x) (AllConditions s x mark) Given
  unfolding commit commit_steps
  commit_stages =
      concludes (commit_steps s x mark)
      (and_then_means _ _
      (and_then_means _ _
      (and_then_means _ _
      (and_then_means _ _ (test_means (eqb (length x) size) 2 0 0 (eqb-true (length x) size, eq-eqb (length x) size))
      (λ w. test_means (well_formed s.users x) 3 0 0 (well_formed_means s.users x)))
      (λ w. test_means (eqb mark 1) 4 0 0 (eqb-true mark 1, eq-eqb mark 1)))
      (λ w. test_means (eqb (own x) (held_own s (owner x) + 1)) 5 0 0 (one_more s x)))
      (λ w. each_means (follows s x) 16 7 (λ v l. (follows_means s x v).0) (λ v l. (follows_means s x v).1)))
      (replaced s x)

  why_given : (n p q : ℕ) → Given n p q → Why s x mark n p q
  why_given n p q =
      ⊎_elim
      (⊎_elim
      (⊎_elim
      (⊎_elim (λ w. rw (w.1, w.2, w.3) (not_long w.0)) (λ w. rw (w.1.1, w.1.2, w.1.3) (not_formed w.0 w.1.0)))
      (λ w. rw (w.1.1, w.1.2, w.1.3) (unmarked w.0 w.1.0)))
      (λ w. rw (w.1.1, w.1.2, w.1.3) (not_next w.0 w.1.0)))
      (λ w. rw (w.1.1, w.1.2) (unordered p w.0 w.1.0))

  given_why : (n p q : ℕ) → Why s x mark n p q → Given n p q
  given_why n p q (not_long f) = inl (inl (inl (inl (f, refl, refl, refl))))
  given_why n p q (not_formed w f) = inl (inl (inl (inr (w, (f, refl, refl, refl)))))
  given_why n p q (unmarked w f) = inl (inl (inr (w, (f, refl, refl, refl))))
  given_why n p q (not_next w f) = inl (inr (w, (f, refl, refl, refl)))
  given_why n p q (unordered v w f) = inr (w, (f, refl, refl))

pub commit_means : CommitMeans
commit_means s x mark long = (
  λ t. (
    λ e.
        let m = means_accepted (commit_stages s x mark) e in
        (m.0, rw m.1 (replaces s x long m.0.0.0.0)),
    λ w. (commit_stages s x mark).accepts w.0 ∙ ap accepted (sym (only_one s x long w.0.0.0.0 t w.1)),
  ),
  λ n p q. (
    λ e. why_given s x mark n p q (means_refused (commit_stages s x mark) e),
    λ w. (commit_stages s x mark).refuses (given_why s x mark n p q w),
  ),
)
