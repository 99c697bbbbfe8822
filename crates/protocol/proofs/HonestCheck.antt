-- The client's check of an honest turn: every condition but the last count's is met, since the list shows what is held and the user remembers
-- its own entry. Where its own count is not the last it accepts, the making step makes the next structure from the counts, and the server's
-- list then takes that.
use Prim.Native.Nat.{ℕ, ◌+◌, ◌≤◌, ◌<◌}
use mathlib.Core.Bool.{true}
use mathlib.Core.List.{List}
use mathlib.Core.Logic.{inl, inr, ⊎_elim}
use mathlib.Core.Path.{◌≡◌, refl, sym, ap, ◌∙◌}
use native.Mathlib.Decide.{ℕ_discrete}
use native.Mathlib.Omega.{arith}
use lib.Dec.{eqb}
use lib.ListN.{length, replicate, length-replicate, get_or-replicate}
use borrow.Author.Tests.{eq-eqb}
use Rattle.search.proofs.Bool.{left_true, right_true}
use Rattle.search.proofs.Search.{every_intro}
use Rattle.refusal.specs.Answer.{accepted, refused}
use Rattle.refusal.proofs.Order.{passing}
use Rattle.protocol.specs.declared.Server.{Server}
use Rattle.protocol.specs.Version.{size, owner, count, own, well_formed, strictly_before}
use Rattle.protocol.specs.List.{records}
use Rattle.protocol.specs.Check.{last_count}
use Rattle.protocol.specs.Create.{create}
use Rattle.protocol.specs.Server.{held, held_own, all_held, follows, replaced, commit_steps, commit}
use Rattle.protocol.specs.History.{Call, called}
use Rattle.protocol.specs.Meaning.{StrictlyBeforeCounts, Sizes, Current, Ordered, new_of, ToCurrent, last}
use Rattle.protocol.specs.Steady.{Kept}
use Rattle.protocol.proofs.Conditions.{well_formed_means, strictly_means}
use Rattle.protocol.proofs.CheckMeans.{check_means}
use Rattle.protocol.proofs.NewMeans.{next_at}
use Rattle.protocol.proofs.CreateAfterCheck.{create_after_check}
use Rattle.protocol.proofs.Listing.{listing_placed}
use Rattle.protocol.proofs.HonestNext.{
  Ready,
  user_below,
  given_next,
  made_next,
  next_count_is,
  all_listed,
  next_length,
  next_owner,
  next_own,
  next_other,
  held_before,
  next_proper,
}

module _ {N : ℕ} {s : Server} {file : ℕ → List ℕ} {u : ℕ} {handle : List ℕ} (r : Ready N s file u handle) where
  -- The user's call on the list of all records held, each with mark 1.
  abbrev pub honest_call : Call
  honest_call =
      record { user = u; list = all_held s; marks = replicate (records (all_held s)) 1 }

  own_kept : Kept N u (held s u)
  own_kept = r.steady.kept u (user_below r)

  sizes : Sizes N (held s u) honest_call
  sizes =
      record {
        none_or_one = ⊎_elim (λ e. inl (ap length e)) (λ p. inr p.whole) own_kept;
        whole = (all_listed r).whole;
        at_most = omega (arith, (all_listed r).few);
        one_mark_each = length-replicate {A = ℕ} (records (all_held s)) 1;
      }

  is_current : Current u (held s u) (all_held s)
  is_current =
      record {
        same_bytes = λ i l o. ((all_listed r).each i l).is_held ∙ ap (held s) o;
        is_listed = λ n.
            ⊎_elim (λ e. absurd (n e))
            (λ p.
            let f = (all_listed r).place u (omega arith) (user_below r) p in (f.0, f.1, ap owner f.2 ∙ p.owned))
            own_kept;
      }

  to_current : ToCurrent N (held s u) honest_call
  to_current = (
    (
      (
        (
          ((omega (arith, r.user), r.small, r.user), sizes),
          ⊎_elim (λ e. inl e) (λ p. inr (p.formed, p.owned)) own_kept,
        ),
        listing_placed (all_listed r),
      ),
      λ i l. get_or-replicate {A = ℕ} (records (all_held s)) i 1 0 l,
    ),
    is_current,
  )

  held_before_counts : (v : ℕ) → v < 16 → StrictlyBeforeCounts (held s v) (new_of (held s u) honest_call)
  held_before_counts v l =
      let b = held_before r v l in
      let at : (w : ℕ) → w < 16 → count (made_next r) w ≡ new_of (held s u) honest_call w = λ w m. next_count_is r w m ∙ next_at u (held s u) (all_held s) w m in (
        λ w m. omega (arith, b.0 w m, at w m),
        (b.1.0, b.1.1, λ e. b.1.2 (e ∙ sym (at b.1.0 b.1.1))),
      )

  -- Two records held are ordered, and each is before the next structure.
  all_ordered : (i j : ℕ) → i < j → j ≤ records (all_held s) → Ordered (all_held s) (new_of (held s u) honest_call) i j
  all_ordered i j a b =
      let x = (all_listed r).each i (omega arith) in (
        λ l.
            let y = (all_listed r).each j l in
            rw (x.is_held, y.is_held) (r.steady.ordered _ _ x.within y.within),
        λ e. rw x.is_held (held_before_counts _ x.within),
      )

  pub checked_next : (held_own s u ≡ last_count → ⊥) → called N (held s u) honest_call ≡ accepted (given_next r)
  checked_next n = ((check_means N (held s u) honest_call).0 (given_next r)).1 (((to_current, n), all_ordered), refl)

  pub created_next :
      (held_own s u ≡ last_count → ⊥) → create N u (held s u) (given_next r) handle size ≡ accepted (made_next r)
  created_next n =
      create_after_check.accepts N u (held s u) (all_held s) (replicate (records (all_held s)) 1) (given_next r) handle (checked_next n) r.handled

  pub checked_last : held_own s u ≡ last_count → called N (held s u) honest_call ≡ refused 6 0 0
  checked_last e = ((check_means N (held s u) honest_call).1 6 0 0).1 (last to_current (λ n. n e))

  -- The commit of the next structure with mark 1.
  follows_all : (v : ℕ) → v < 16 → follows s (made_next r) v ≡ true
  unfolding follows
  follows_all v l =
      let before = (strictly_means (held s v) (made_next r)).1 (held_before r v l) in
      rw (right_true (eqb (length (held s v)) 0) (strictly_before (held s v) (made_next r)) before)
      (elim (ℕ_discrete v u) [
        | yes e ↦
            left_true (eqb v (owner (made_next r))) (eqb (count (made_next r) v) (held_own s v))
            (eq-eqb v (owner (made_next r)) (e ∙ sym (next_owner r)))
        | no n ↦
            right_true (eqb v (owner (made_next r))) (eqb (count (made_next r) v) (held_own s v))
            (eq-eqb (count (made_next r) v) (held_own s v) (next_other r v l n))
      ])

  pub committed_next : commit s (made_next r) 1 ≡ accepted (replaced s (made_next r))
  unfolding commit commit_steps
  committed_next =
      let f : well_formed s.users (made_next r) ≡ true =
      ap (λ (n : ℕ). well_formed n (made_next r)) r.steady.users ∙ (well_formed_means N (made_next r)).1 (next_proper r).formed
      in
      let o : own (made_next r) ≡ held_own s (owner (made_next r)) + 1 =
      ap (count (made_next r)) (next_owner r) ∙ (next_own r ∙ ap (λ (v : ℕ). held_own s v + 1) (sym (next_owner r)))
      in
      passing (commit_steps s (made_next r) 1) (
        rw (eq-eqb (length (made_next r)) size (next_length r)),
        (
          rw f,
          (
            refl,
            (
              rw (eq-eqb (own (made_next r)) (held_own s (owner (made_next r)) + 1) o),
              (rw (every_intro (follows s (made_next r)) 0 16 (λ v a b. follows_all v b)), tt),
            ),
          ),
        ),
      )
