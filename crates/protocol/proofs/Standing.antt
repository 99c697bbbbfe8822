-- How counts stand is decided by two tests, the order one way and the other way round; so a law of the four answers is a law of two
-- Booleans.
use Prim.Native.Nat.{ℕ, ◌<◌}
use mathlib.Core.Bool.{Bool, true, false, cond, not, ◌&&◌, ◌||◌}
use mathlib.Core.Logic.{◌⊎◌, inl, inr, ⊎_elim}
use mathlib.Core.Path.{◌≡◌, refl, sym, ap, subst, ◌∙◌}
use native.Mathlib.Decide.{dec_lt}
use native.Mathlib.Omega.{arith}
use borrow.Author.Tests.{eq-eqb, ne_eqb, le-leb, lt-leb, leb-false}
use lib.Dec.{leb, eqb}
use Rattle.search.specs.Search.{every, find}
use Rattle.search.proofs.Bool.{not_both}
use Rattle.search.proofs.Search.{every_fails, first_failure, every_cong, every_both}
use Rattle.protocol.specs.Version.{counts_before, counts_strictly_before, Standing, equal, before, after, apart, standing}
use Rattle.protocol.proofs.Version.{at_most, at_most_intro}
use Rattle.protocol.specs.Standing.{Stands, StandingMeans, flipped, Flipped, OrdersRead, StandingsOccur}

-- What the two tests say: whether f is at or before g, and g at or before f.
abbrev pub told : Bool → Bool → Standing
told true true = equal
told true false = before
told false true = after
told false false = apart

equal_both : (a b : ℕ) → eqb a b ≡ (leb a b && leb b a)
equal_both a b =
    elim (dec_lt a b) [
      | yes l ↦ rw (ne_eqb a b (λ e. omega arith), le-leb a b (omega arith), lt-leb b a l)
      | no g ↦
          elim (dec_lt b a) [
            | yes l ↦ rw (ne_eqb a b (λ e. omega arith), lt-leb a b l)
            | no m ↦ rw (eq-eqb a b (omega arith), le-leb a b (omega arith), le-leb b a (omega arith))
          ]
    ]

by_two : (a b : Bool) → cond (a && b) equal (cond (a && not (a && b)) before (cond (b && not (b && a)) after apart)) ≡ told a b
by_two true true = refl
by_two true false = refl
by_two false true = refl
by_two false false = refl

module _ (f g : ℕ → ℕ) where
  all_equal : every (λ v. eqb (f v) (g v)) 0 16 ≡ (counts_before f g && counts_before g f)
  unfolding counts_before
  all_equal =
      every_cong (λ v. eqb (f v) (g v)) (λ v. leb (f v) (g v) && leb (g v) (f v)) 0 16 (λ v a b. equal_both (f v) (g v)) ∙
      every_both (λ v. leb (f v) (g v)) (λ v. leb (g v) (f v)) 0 16

  some_more : counts_before f g ≡ false → (v : ℕ) × (v < 16) × (g v < f v)
  unfolding counts_before
  some_more e = let w = first_failure (λ v. leb (f v) (g v)) 0 16 e in (_, w.0, leb-false _ _ w.1)

  some_more_intro : (v : ℕ) × (v < 16) × (g v < f v) → counts_before f g ≡ false
  unfolding counts_before
  some_more_intro w = every_fails (λ v. leb (f v) (g v)) 0 16 w.0 (omega arith) w.1 (lt-leb _ _ w.2)

module _ (f g : ℕ → ℕ) where
  pub by_orders : standing f g ≡ told (counts_before f g) (counts_before g f)
  unfolding standing counts_strictly_before
  by_orders = rw (all_equal f g, all_equal g f) (by_two (counts_before f g) (counts_before g f))

  stands : (a b : Bool) → counts_before f g ≡ a → counts_before g f ≡ b → Stands f g (told a b)
  stands true true p q = λ v l. let s = at_most f g p v l in let t = at_most g f q v l in omega arith
  stands true false p q = (at_most f g p, some_more g f q)
  stands false true p q = (at_most g f q, some_more f g p)
  stands false false p q = (some_more g f q, some_more f g p)

  decided : {a b : Bool} → counts_before f g ≡ a → counts_before g f ≡ b → standing f g ≡ told a b
  decided p q = rw (p, q) at by_orders

  given : (s : Standing) → Stands f g s → standing f g ≡ s
  given equal h = decided (at_most_intro f g (λ v l. omega (arith, h v l))) (at_most_intro g f (λ v l. omega (arith, h v l)))
  given before h = decided (at_most_intro f g h.0) (some_more_intro g f h.1)
  given after h = decided (some_more_intro f g h.1) (at_most_intro g f h.0)
  given apart h = decided (some_more_intro f g h.1) (some_more_intro g f h.0)

  holds : Stands f g (standing f g)
  holds = subst (Stands f g) (sym by_orders) (stands (counts_before f g) (counts_before g f) refl refl)

pub standing_means : StandingMeans
standing_means =
    record {
      exactly = λ f g s. (λ e. subst (Stands f g) e (holds f g), given f g s);
      one_of_four = λ f g. (standing f g, holds f g, λ t h. sym (given f g t h));
    }

turned : (a b : Bool) → told b a ≡ flipped (told a b)
turned true true = refl
turned true false = refl
turned false true = refl
turned false false = refl

pub flips : Flipped
flips f g = rw (by_orders f g, by_orders g f) (turned (counts_before f g) (counts_before g f))

-- The orders as tests of the answer.
abbrev pub is_before : Standing → Bool
is_before equal = false
is_before before = true
is_before after = false
is_before apart = false

abbrev is_at_or_before : Standing → Bool
is_at_or_before equal = true
is_at_or_before before = true
is_at_or_before after = false
is_at_or_before apart = false

abbrev pub is_ordered : Standing → Bool
is_ordered equal = true
is_ordered before = true
is_ordered after = true
is_ordered apart = false

strict_told : (a b : Bool) → (a && not (a && b)) ≡ is_before (told a b)
strict_told true true = refl
strict_told true false = refl
strict_told false true = refl
strict_told false false = refl

before_told : (a b : Bool) → a ≡ is_at_or_before (told a b)
before_told true true = refl
before_told true false = refl
before_told false true = refl
before_told false false = refl

ordered_told : (a b : Bool) → (a || b) ≡ is_ordered (told a b)
ordered_told true true = refl
ordered_told true false = refl
ordered_told false true = refl
ordered_told false false = refl

module _ (f g : ℕ → ℕ) where
  pub strictly_read : counts_strictly_before f g ≡ is_before (standing f g)
  unfolding counts_strictly_before
  strictly_read = rw (all_equal f g, by_orders f g) (strict_told (counts_before f g) (counts_before g f))

  before_read : counts_before f g ≡ is_at_or_before (standing f g)
  before_read = rw (by_orders f g) (before_told (counts_before f g) (counts_before g f))

  pub ordered_read : (counts_before f g || counts_before g f) ≡ is_ordered (standing f g)
  ordered_read = rw (by_orders f g) (ordered_told (counts_before f g) (counts_before g f))

is_before_means : (s : Standing) → is_before s ≡ true → s ≡ before
is_before_means equal e = absurd (not_both e refl)
is_before_means before e = refl
is_before_means after e = absurd (not_both e refl)
is_before_means apart e = absurd (not_both e refl)

is_at_or_before_means : (s : Standing) → is_at_or_before s ≡ true → (s ≡ equal) ⊎ (s ≡ before)
is_at_or_before_means equal e = inl refl
is_at_or_before_means before e = inr refl
is_at_or_before_means after e = absurd (not_both e refl)
is_at_or_before_means apart e = absurd (not_both e refl)

is_ordered_means : (s : Standing) → (s ≡ apart → ⊥) → is_ordered s ≡ true
is_ordered_means equal h = refl
is_ordered_means before h = refl
is_ordered_means after h = refl
is_ordered_means apart h = absurd (h refl)

pub orders_read : OrdersRead
orders_read =
    record {
      strictly_before_stands = λ f g. (λ t. is_before_means (standing f g) (sym (strictly_read f g) ∙ t), λ e. strictly_read f g ∙ ap is_before e);
      at_or_before_stands = λ f g. (
        λ t. is_at_or_before_means (standing f g) (sym (before_read f g) ∙ t),
        λ w. before_read f g ∙ ⊎_elim (λ e. ap is_at_or_before e) (λ e. ap is_at_or_before e) w,
      );
      one_of_two = λ f g. (
        λ t e. not_both (sym (ordered_read f g) ∙ t) (ap is_ordered e),
        λ h. ordered_read f g ∙ is_ordered_means (standing f g) h,
      );
    }

pub standings_occur : StandingsOccur
unfolding standing counts_strictly_before counts_before every find
standings_occur = refl
