-- The run with cuts, by computation on its bytes.
use Prim.Native.Nat.{ℕ}
use mathlib.Core.List.{List, []}
use mathlib.Core.Logic.{inl, inr}
use mathlib.Core.Path.{◌≡◌, refl, ap}
use native.Mathlib.Omega.{arith}
use lib.ListN.{get_or}
use Rattle.refusal.specs.Order.{in_order}
use Rattle.search.specs.Search.{find, every}
use Rattle.layout.specs.Strings.{same, zeros}
use Rattle.search.specs.Pairs.{every_pair, first_low, first_high}
use Rattle.layout.specs.Bytes.{four, bytes4, values}
use Rattle.protocol.specs.Version.{counts, structure, well_formed, counts_before, counts_strictly_before}
use Rattle.protocol.specs.List.{entry, well_placed}
use Rattle.protocol.specs.Check.{next_counts, remembers, current, ordered, size_steps, form_steps, order_steps}
use Rattle.protocol.specs.Create.{length_steps, count_steps}
use Rattle.protocol.specs.MemoryFile.{held, formed, file_of, sent_of, file_steps, over, sent, given_steps, sends_again, check_file, create_file}
use Rattle.protocol.specs.History.{Call, Making, Fate, whole, absent, checks, creates, marks_sent, file_from, Signed}
use Rattle.protocol.specs.NoJoin.{SignedRecords, CheckedCounts}
use Rattle.protocol.specs.ForkedRun.{counting, two_counts, call_on, making_of}
use Rattle.protocol.specs.CutRun.{empty, lost_making, kept_making, lost, kept, late, shown, of_b, both, old, cut_twice, late_touch, on_b, cut_run, CutRun}
use Rattle.protocol.proofs.ForkedRun.{below, Covered, at_check, no_check, at_making, no_making}
use Rattle.protocol.proofs.OnePerCount.{one_per_count}

-- A sent write is no check and no making step, and an absent write none that counts.
sent_no_check : (P : Call → Type 0) (u : ℕ) (w : Fate) (d : Call) → marks_sent u w ≡ checks d → P d
sent_no_check P u w d e = let z : ◌≡◌ {A = ℕ} 0 1 = cc in absurd (omega arith)

sent_no_making : (P : Making → Type 0) (u : ℕ) (w : Fate) (n : Making) → marks_sent u w ≡ creates n whole → P n
sent_no_making P u w n e = let z : ◌≡◌ {A = ℕ} 0 1 = cc in absurd (omega arith)

absent_no_making : (P : Making → Type 0) (m n : Making) → creates m absent ≡ creates n whole → P n
absent_no_making P m n e = let same : absent ≡ whole = cc in let z : ◌≡◌ {A = ℕ} 0 1 = cc in absurd (omega arith)

pub cut_run_holds : CutRun
unfolding
    old over empty lost_making kept_making lost kept late shown of_b both call_on making_of counting two_counts counts structure well_formed counts_before
    counts_strictly_before entry well_placed next_counts values remembers current ordered size_steps form_steps order_steps length_steps count_steps held
    formed file_of sent_of file_steps sent given_steps sends_again check_file create_file file_from four bytes4 find every same zeros every_pair first_low
    first_high in_order
cut_run_holds =
    let differ : lost ≡ kept → ⊥ = λ e. let b : ◌≡◌ {A = ℕ} (get_or lost 2 0) (get_or kept 2 0) = ap (λ (x : List ℕ). get_or x 2 0) e in omega arith in
    let counts-kept : Signed 2 cut_run 0 kept = inr (inr (inr (inr (inr (inr (inl (refl, refl))))))) in
    let covered : SignedRecords 2 (λ v. Unit) cut_run = (
      sent_no_check _ 0 whole,
      (
        at_check _ both
            (λ s ok i l h.
            below (Covered on_b both) 2 ((tt, inr (inr (inr (inr (inl (refl, refl)))))), inl (refl, refl)) i l),
        (
          no_check _ of_b whole,
          (
            at_check _ shown (λ s ok i l h. below (Covered late_touch shown) 1 (tt, inr (inr (inl (refl, refl)))) i l),
            (
              no_check _ late whole,
              (
                at_check _ empty (λ s ok i l h. below (Covered cut_twice empty) 0 tt i l),
                (
                  no_check _ kept_making whole,
                  (no_check _ lost_making absent, (at_check _ empty (λ s ok i l h. below (Covered [] empty) 0 tt i l), tt)),
                ),
              ),
            ),
          ),
        ),
      ),
    )
    in
    let given : CheckedCounts 2 (λ v. Unit) cut_run = (
      sent_no_making _ 0 whole,
      (
        no_making _ both,
        (
          at_making _ of_b (λ x a h. inl (shown, refl, refl, refl)),
          (
            no_making _ shown,
            (
              at_making _ late (λ x a h. inr (inr (inr (inl (empty, refl, refl, refl))))),
              (
                no_making _ empty,
                (
                  at_making _ kept_making (λ x a h. inr (inl (empty, refl, refl, refl))),
                  (absent_no_making _ lost_making, (no_making _ empty, tt)),
                ),
              ),
            ),
          ),
        ),
      ),
    )
    in
    record {
      premise = (covered, given);
      first_check = refl;
      lost_made = refl;
      kept_made = refl;
      differ = differ;
      one_count = refl;
      kept_counts = counts-kept;
      lost_does_not = λ s. differ ((one_per_count 2 0 _ (inl refl) cut_run).0 lost kept s counts-kept refl);
      sends_it_again = refl;
      no_third = refl;
      b_accepts = refl;
      a_goes_on = refl;
      as_if_sent = refl;
      older_refused = refl;
      moved_over = refl;
      moved_counts = inl (refl, refl);
    }
