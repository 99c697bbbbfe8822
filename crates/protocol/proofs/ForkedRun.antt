-- The forked run, by computation on its bytes.
use Prim.Native.Nat.{ℕ, zero, suc, ◌<◌}
use mathlib.Core.List.{List, [], ◌∷◌}
use mathlib.Core.Logic.{inl, inr, ⊎_elim}
use mathlib.Core.Path.{◌≡◌, refl}
use native.Mathlib.Nat.{eq-or-lt_of_le}
use native.Mathlib.Omega.{arith}
use Rattle.refusal.specs.Answer.{refused}
use Rattle.refusal.specs.Order.{in_order}
use Rattle.search.specs.Search.{find, every}
use Rattle.layout.specs.Strings.{same, zeros}
use Rattle.search.specs.Pairs.{every_pair, first_low, first_high}
use Rattle.layout.specs.Bytes.{four, bytes4, values}
use Rattle.protocol.specs.Version.{owner, counts, structure, well_formed, counts_before, counts_strictly_before}
use Rattle.protocol.specs.List.{record_at, entry, well_placed}
use Rattle.protocol.specs.Check.{next_counts, remembers, current, ordered, size_steps, form_steps, order_steps}
use Rattle.protocol.specs.Create.{length_steps, count_steps}
use Rattle.protocol.specs.MemoryFile.{held, formed, file_of, given_steps, sends_again, check_file, create_file}
use Rattle.protocol.specs.History.{Call, Making, Fate, whole, Event, checks, creates, file_from, answer, Signed}
use Rattle.protocol.specs.NoJoin.{CheckedCounts, MarkedRecords}
use Rattle.protocol.specs.ForkedRun.{counting, two_counts, call_on, making_of, p1, p2, p3, p4, p5, m1, m2, m3, m4, again}
use Rattle.protocol.specs.ForkedRun.{two_signed, forked_run, ForkedRun}
use Rattle.protocol.proofs.MarkedSuffices.{marked_suffices}

-- P holds at each of the n places from 0 on.
abbrev pub Below : (ℕ → Type 0) → ℕ → Type 0
Below P zero = Unit
Below P (suc n) = Below P n × P n

pub below : (P : ℕ → Type 0) (n : ℕ) → Below P n → (i : ℕ) → i < n → P i
below P zero b i h = absurd (omega arith)
below P (suc n) b i h = ⊎_elim (λ e. rw e b.1) (λ l. below P n b.0 i l) (eq-or-lt_of_le {n = i} {m = n} (omega arith))

-- Record i of the call's list was signed earlier by its owner.
abbrev pub Covered : List Event → Call → ℕ → Type 0
Covered earlier c i = Signed 2 earlier (owner (record_at c.list i)) (record_at c.list i)

-- What is said of every check that an event is, said of the one that it is, or of none where it is another event; and the other way round.
pub at_check : (P : Call → Type 0) (c : Call) → P c → (d : Call) → checks c ≡ checks d → P d
at_check P c p d e = let same : c ≡ d = cc in rw (← same) p

pub no_check : (P : Call → Type 0) (m : Making) (w : Fate) (d : Call) → creates m w ≡ checks d → P d
no_check P m w d e = let z : ◌≡◌ {A = ℕ} 0 1 = cc in absurd (omega arith)

pub at_making : (P : Making → Type 0) (m : Making) → P m → (n : Making) → creates m whole ≡ creates n whole → P n
at_making P m p n e = let same : m ≡ n = cc in rw (← same) p

pub no_making : (P : Making → Type 0) (c : Call) (n : Making) → checks c ≡ creates n whole → P n
no_making P c n e = let z : ◌≡◌ {A = ℕ} 0 1 = cc in absurd (omega arith)

pub forked_run_holds : ForkedRun
unfolding
    p1 p2 p3 p4 p5 m1 m2 m3 m4 again call_on making_of counting two_counts counts structure well_formed counts_before counts_strictly_before entry
    well_placed next_counts values remembers current ordered size_steps form_steps order_steps length_steps count_steps held formed file_of given_steps sends_again check_file create_file file_from four bytes4
    find every same zeros every_pair first_low first_high in_order
forked_run_holds =
    let covered : MarkedRecords 2 (λ v. Unit) forked_run = (
      no_check _ m3 whole,
      (
        no_check _ m4 whole,
        (
          at_check _ p4
              (λ i l m h. below (Covered (checks p3 ∷ two_signed) p4) 2 ((tt, inr (inr (inr (inl (refl, refl))))), inr (inl (refl, refl))) i l),
          (
            at_check _ p3 (λ i l m h. below (Covered two_signed p3) 2 ((tt, inr (inr (inl (refl, refl)))), inl (refl, refl)) i l),
            (
              no_check _ m2 whole,
              (
                at_check _ p2 (λ i l m h. below (Covered (creates m1 whole ∷ checks p1 ∷ []) p2) 1 (tt, inl (refl, refl)) i l),
                (no_check _ m1 whole, (at_check _ p1 (λ i l m h. below (Covered [] p1) 0 tt i l), tt)),
              ),
            ),
          ),
        ),
      ),
    )
    in
    let given : CheckedCounts 2 (λ v. Unit) forked_run = (
      at_making _ m3 (λ x a h. inr (inr (inl (p3, refl, refl, refl)))),
      (
        at_making _ m4 (λ x a h. inl (p4, refl, refl, refl)),
        (
          no_making _ p4,
          (
            no_making _ p3,
            (
              at_making _ m2 (λ x a h. inl (p2, refl, refl, refl)),
              (no_making _ p2, (at_making _ m1 (λ x a h. inl (p1, refl, refl, refl)), (no_making _ p1, tt))),
            ),
          ),
        ),
      ),
    )
    in
    record {
      premise = (marked_suffices 2 (λ v. Unit) forked_run (covered, given)).0;
      marked_premise = (covered, given);
      signed_by_a = inl (refl, refl);
      signed_by_b = inr (inl (refl, refl));
      fewer_of_b = omega arith;
      fewer_of_a = omega arith;
      two_entries = refl;
      third_accepts = refl;
      fourth_accepts = refl;
      b_makes = refl;
      a_makes = refl;
      again_refused = refl;
      fifth_refused = below (λ user. answer 2 forked_run (p5 user) ≡ refused 7 0 1) 2 ((tt, refl), refl);
    }
