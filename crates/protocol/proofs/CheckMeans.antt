-- The client's check means what Meaning says: its tests are stages, each of which decides one condition, joined in their order.
use Prim.Native.Nat.{ℕ, ◌*◌, ◌≤◌, ◌<◌}
use mathlib.Core.Bool.{Bool, not, ◌||◌}
use mathlib.Core.List.{List, [], ◌∷◌, ◌++◌}
use mathlib.Core.Logic.{inl, inr, ⊎_elim}
use mathlib.Core.Path.{◌≡◌, refl, sym, ap, ◌∙◌}
use lib.Dec.{leb, ltb, eqb}
use lib.ListN.{length, get_or}
use borrow.Author.Tests.{leb-true, ltb-true, eqb-true, eqb-false, le-leb, lt-ltb, eq-eqb, ne_eqb, not-true}
use Rattle.search.specs.Pairs.{every_pair, first_low, first_high}
use Rattle.refusal.specs.Answer.{accepted}
use Rattle.refusal.specs.Order.{Step, unless, unless_each, in_order}
use Rattle.refusal.proofs.Means.{Means, Stage, Either, Unless, AtFirst, AtFirstPair, alike, means_accepted, means_refused}
use Rattle.refusal.proofs.Means.{in_append, and_then_means, concludes, tests_mean, each_means, pairs_mean}
use Rattle.protocol.specs.Version.{size, count}
use Rattle.protocol.specs.List.{records, well_placed}
use Rattle.protocol.specs.Check.{last_count, remembers, current, ordered, size_steps, form_steps, order_steps, check}
use Rattle.protocol.specs.History.{Call, called}
use Rattle.protocol.specs.Meaning.{Users, Sizes, Remembered, WellPlaced, Marked, Current, NotLast, Ordered, new_of, new_counts}
use Rattle.protocol.specs.Meaning.{ToSizes, ToRemembered, ToPlaced, ToMarked, ToCurrent, ToNotLast, AllConditions, CheckMeans}
use Rattle.protocol.specs.Meaning.{Why, users, lengths, remembered, placed, unmarked, not_current, last, unordered}
use Rattle.protocol.proofs.Conditions.{none_or_one, remembers_means, well_placed_means, current_means, ordered_means}

-- The conditions that the making step has too.
module _ (N u : ℕ) where
  pub users_stage : Stage (alike (leb 1 N ∷ leb N 16 ∷ ltb u N ∷ []) 1 0 0) (Users N u) (Unless (Users N u) 1 0 0)
  users_stage =
      tests_mean (leb 1 N ∷ leb N 16 ∷ ltb u N ∷ []) 1 0 0
      (λ t. (leb-true 1 N t.0, leb-true N 16 t.1.0, ltb-true u N t.1.1.0))
      (λ w. (le-leb 1 N w.0, (le-leb N 16 w.1, (lt-ltb u N w.2, tt))))

  pub remembered_stage :
      (mem : List ℕ) → Stage (alike (remembers N u mem ∷ []) 3 16 0) (Remembered N u mem) (Unless (Remembered N u mem) 3 16 0)
  remembered_stage mem =
      tests_mean (remembers N u mem ∷ []) 3 16 0 (λ t. (remembers_means N u mem).0 t.0) (λ w. ((remembers_means N u mem).1 w, tt))

pub last_stage :
    (u : ℕ) (mem : List ℕ) → Stage (alike (not (eqb (count mem u) last_count) ∷ []) 6 0 0) (NotLast u mem) (Unless (NotLast u mem) 6 0 0)
last_stage u mem =
    tests_mean (not (eqb (count mem u) last_count) ∷ []) 6 0 0
    (λ t. eqb-false (count mem u) last_count (not-true (eqb (count mem u) last_count) t.0))
    (λ w. (ap not (ne_eqb (count mem u) last_count w), tt))

module _ (N : ℕ) (mem : List ℕ) (c : Call) where
  abbrev pub size_tests : List Bool
  size_tests =
      (eqb (length mem) 0 || eqb (length mem) size) ∷
      eqb (size * records c.list) (length c.list) ∷
      leb (records c.list) N ∷ eqb (length c.marks) (records c.list) ∷ []

  pub sizes_stage : Stage (alike size_tests 2 0 0) (Sizes N mem c) (Unless (Sizes N mem c) 2 0 0)
  sizes_stage =
      tests_mean size_tests 2 0 0
      (λ t.
      record {
        none_or_one = (none_or_one mem).0 t.0;
        whole = eqb-true (size * records c.list) (length c.list) t.1.0;
        at_most = leb-true (records c.list) N t.1.1.0;
        one_mark_each = eqb-true (length c.marks) (records c.list) t.1.1.1.0;
      })
      (λ w. (
        (none_or_one mem).1 w.none_or_one,
        (
          eq-eqb (size * records c.list) (length c.list) w.whole,
          (
            le-leb (records c.list) N w.at_most,
            (eq-eqb (length c.marks) (records c.list) w.one_mark_each, tt),
          ),
        ),
      ))

  pub placed_stage :
      Stage (unless_each (well_placed N c.list) (records c.list) 3 ∷ []) ((i : ℕ) → i < records c.list → WellPlaced N c.list i)
      (AtFirst (WellPlaced N c.list) (records c.list) 3)
  placed_stage =
      each_means (well_placed N c.list) (records c.list) 3 (λ i l. (well_placed_means N c.list i).0) (λ i l. (well_placed_means N c.list i).1)

  pub marked_stage :
      Stage (unless_each (λ i. eqb (get_or c.marks i 0) 1) (records c.list) 4 ∷ [])
      ((i : ℕ) → i < records c.list → Marked c.marks i)
      (AtFirst (Marked c.marks) (records c.list) 4)
  marked_stage =
      each_means (λ i. eqb (get_or c.marks i 0) 1) (records c.list) 4 (λ i l. eqb-true (get_or c.marks i 0) 1)
      (λ i l. eq-eqb (get_or c.marks i 0) 1)

  pub current_stage :
      ToMarked N mem c →
      Stage (alike (current c.user mem c.list ∷ []) 5 0 0) (Current c.user mem c.list)
      (Unless (Current c.user mem c.list) 5 0 0)
  current_stage w =
      let m = current_means N c.list w.0.0.0.1.whole w.0.1 c.user mem in
      tests_mean (current c.user mem c.list ∷ []) 5 0 0 (λ t. m.0 t.0) (λ k. (m.1 k, tt))

  pub pairs_stage :
      Stage
      (unless (every_pair (ordered c.list (new_of mem c)) (records c.list)) 7
      (first_low (ordered c.list (new_of mem c)) (records c.list)) (first_high (ordered c.list (new_of mem c)) (records c.list)) ∷
      [])
      ((i j : ℕ) → i < j → j ≤ records c.list → Ordered c.list (new_of mem c) i j)
      (AtFirstPair (Ordered c.list (new_of mem c)) (records c.list) 7)
  pairs_stage =
      pairs_mean (ordered c.list (new_of mem c)) (records c.list) 7
      (λ i j l h. (ordered_means c.list (new_of mem c) i j h).0) (λ i j l h. (ordered_means c.list (new_of mem c) i j h).1)

  -- Every way to be refused, as the stages give it.
  abbrev Given : ℕ → ℕ → ℕ → Type 0
  Given =
      Either (ToNotLast N mem c)
      (Either (ToCurrent N mem c)
      (Either (ToMarked N mem c)
      (Either (ToPlaced N mem c)
      (Either (ToRemembered N mem c)
      (Either (ToSizes N mem c)
      (Either (Users N c.user) (Unless (Users N c.user) 1 0 0) (Unless (Sizes N mem c) 2 0 0))
      (Unless (Remembered N c.user mem) 3 16 0))
      (AtFirst (WellPlaced N c.list) (records c.list) 3))
      (AtFirst (Marked c.marks) (records c.list) 4))
      (Unless (Current c.user mem c.list) 5 0 0))
      (Unless (NotLast c.user mem) 6 0 0))
      (AtFirstPair (Ordered c.list (new_of mem c)) (records c.list) 7)

  all_stages :
      Stage
      (size_steps N c.user mem c.list c.marks ++
      (form_steps N c.user mem c.list c.marks ++ order_steps c.user mem c.list))
      (AllConditions N mem c) Given
  unfolding size_steps form_steps order_steps
  all_stages =
      and_then_means _ _
      (and_then_means _ _
      (and_then_means _ _
      (and_then_means _ _
      (and_then_means _ _
      (and_then_means _ _ (and_then_means _ _ (users_stage N c.user) (λ w. sizes_stage)) (λ w. remembered_stage N c.user mem)) (λ w. placed_stage))
      (λ w. marked_stage))
      current_stage)
      (λ w. last_stage c.user mem))
      (λ w. pairs_stage)

  check_stages : Means (called N mem c) (new_counts mem c) (AllConditions N mem c) Given
  unfolding check
  check_stages =
      let sizes : List Step = size_steps N c.user mem c.list c.marks in
      let forms : List Step = form_steps N c.user mem c.list c.marks in
      let orders : List Step = order_steps c.user mem c.list in
      let e : in_order (sizes ++ (forms ++ orders)) (accepted (new_counts mem c)) ≡ called N mem c =
      in_append sizes (forms ++ orders) (accepted (new_counts mem c)) ∙ ap (in_order sizes) (in_append forms orders (accepted (new_counts mem c)))
      in
      rw e at (concludes (sizes ++ (forms ++ orders)) all_stages (new_counts mem c))

  why_given : (n p q : ℕ) → Given n p q → Why N mem c n p q
  why_given n p q =
      ⊎_elim
      (⊎_elim
      (⊎_elim
      (⊎_elim
      (⊎_elim
      (⊎_elim
      (⊎_elim (λ w. rw (w.1, w.2, w.3) (users w.0)) (λ w. rw (w.1.1, w.1.2, w.1.3) (lengths w.0 w.1.0)))
      (λ w. rw (w.1.1, w.1.2, w.1.3) (remembered w.0 w.1.0)))
      (λ w. rw (w.1.1, w.1.2) (placed p w.0 w.1.0)))
      (λ w. rw (w.1.1, w.1.2) (unmarked p w.0 w.1.0)))
      (λ w. rw (w.1.1, w.1.2, w.1.3) (not_current w.0 w.1.0)))
      (λ w. rw (w.1.1, w.1.2, w.1.3) (last w.0 w.1.0)))
      (λ w. rw w.1.1 (unordered p q w.0 w.1.0))

  given_why : (n p q : ℕ) → Why N mem c n p q → Given n p q
  given_why n p q (users f) = inl (inl (inl (inl (inl (inl (inl (f, refl, refl, refl)))))))
  given_why n p q (lengths w f) = inl (inl (inl (inl (inl (inl (inr (w, (f, refl, refl, refl))))))))
  given_why n p q (remembered w f) = inl (inl (inl (inl (inl (inr (w, (f, refl, refl, refl)))))))
  given_why n p q (placed i w f) = inl (inl (inl (inl (inr (w, (f, refl, refl))))))
  given_why n p q (unmarked i w f) = inl (inl (inl (inr (w, (f, refl, refl)))))
  given_why n p q (not_current w f) = inl (inl (inr (w, (f, refl, refl, refl))))
  given_why n p q (last w f) = inl (inr (w, (f, refl, refl, refl)))
  given_why n p q (unordered i j w f) = inr (w, (f, refl))

pub check_means : CheckMeans
check_means N mem c = (
  λ a. (means_accepted (check_stages N mem c), λ w. (check_stages N mem c).accepts w.0 ∙ ap accepted (sym w.1)),
  λ n p q. (
    λ e. why_given N mem c n p q (means_refused (check_stages N mem c) e),
    λ w. (check_stages N mem c).refuses (given_why N mem c n p q w),
  ),
)
