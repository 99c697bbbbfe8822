-- The tests of a choice decide its conditions, in their order.
use Prim.Native.Nat.{ℕ, suc}
use mathlib.Core.Bool.{Bool, true, false, cond, ◌||◌}
use mathlib.Core.List.{List, [], ◌∷◌}
use mathlib.Core.Logic.{◌⊎◌, ◌↔◌, inl, inr, ⊎_elim}
use mathlib.Core.Path.{◌≡◌, refl, ap, ◌∙◌}
use native.Mathlib.Omega.{arith}
use lib.Dec.{leb, ltb, eqb}
use lib.ListN.{length}
use borrow.Author.Tests.{eqb-true, eq-eqb, leb-true, le-leb, lt-ltb}
use Rattle.search.proofs.Bool.{bool_cases, both_true, either_true, left_true, right_true, not_both}
use Rattle.layout.specs.Strings.{same}
use Rattle.layout.proofs.Strings.{same_true, same_refl}
use Rattle.refusal.proofs.Means.{Means, means_accepted, means_refused, Stage, Either, Unless, alike, and_then_means, tests_mean, test_means, concludes}
use Rattle.sha256.specs.Sha256.{sha256}
use Rattle.cache.specs.Choose.{Choice, from_reply, from_cache, fits, choose_steps, choose}
use Rattle.cache.specs.ChooseMeaning.{Sizes, Fits, Chosen, the_reply, the_cached, Why, lengths, neither, ChooseMeans}

pub fits_mean : (wanted part : List ℕ) → (fits wanted part ≡ true) ↔ Fits wanted part
unfolding fits
fits_mean wanted [] = (λ e. absurd (not_both e refl), λ f. absurd (f.there refl))
fits_mean wanted (x ∷ xs) = (
  λ e.
      record {
        there = λ z. let l : suc (length xs) ≡ 0 = ap length z in omega (arith, l);
        hashed = same_true (sha256 (x ∷ xs)) wanted (both_true (ltb 0 (suc (length xs))) (same (sha256 (x ∷ xs)) wanted) e).1;
      },
  λ f. rw (lt-ltb 0 (suc (length xs)) (omega arith), f.hashed) (same_refl wanted),
)

pub unfits : {wanted part : List ℕ} → fits wanted part ≡ false → Fits wanted part → ⊥
unfits {wanted} {part} e f = not_both ((fits_mean wanted part).1 f) e

module _ (wanted reply cached : List ℕ) where
  abbrev OneFits : Type 0
  OneFits = Fits wanted reply ⊎ Fits wanted cached

  abbrev Given : ℕ → ℕ → ℕ → Type 0
  Given = Either (Sizes wanted reply cached) (Unless (Sizes wanted reply cached) 2 0 0) (Unless OneFits 8 0 0)

  abbrev the_one : Choice
  the_one = cond (fits wanted reply) from_reply from_cache

  abbrev lengths_tested : List Bool
  lengths_tested = eqb (length wanted) 32 ∷ leb (length reply) 65536 ∷ leb (length cached) 65536 ∷ []

  sizes_stage : Stage (alike lengths_tested 2 0 0) (Sizes wanted reply cached) (Unless (Sizes wanted reply cached) 2 0 0)
  sizes_stage =
      tests_mean lengths_tested 2 0 0
      (λ t.
      record {
        wanted_long = eqb-true (length wanted) 32 t.0;
        reply_most = leb-true (length reply) 65536 t.1.0;
        cached_most = leb-true (length cached) 65536 t.1.1.0;
      })
      (λ s. (
        eq-eqb (length wanted) 32 s.wanted_long,
        (le-leb (length reply) 65536 s.reply_most, (le-leb (length cached) 65536 s.cached_most, tt)),
      ))

  one_fits : ((fits wanted reply || fits wanted cached) ≡ true) ↔ OneFits
  one_fits = (
    λ e.
        ⊎_elim (λ r. inl ((fits_mean wanted reply).0 r)) (λ c. inr ((fits_mean wanted cached).0 c))
        (either_true (fits wanted reply) (fits wanted cached) e),
    ⊎_elim (λ r. left_true (fits wanted reply) (fits wanted cached) ((fits_mean wanted reply).1 r))
        (λ c. right_true (fits wanted reply) (fits wanted cached) ((fits_mean wanted cached).1 c)),
  )

  stages : Means (choose wanted reply cached) the_one (Sizes wanted reply cached × OneFits) Given
  unfolding choose choose_steps
  stages =
      concludes (choose_steps wanted reply cached)
      (and_then_means _ _ sizes_stage (λ s. test_means (fits wanted reply || fits wanted cached) 8 0 0 one_fits)) the_one

  -- Which part it is.
  is_chosen : (b : Bool) → fits wanted reply ≡ b → Sizes wanted reply cached → OneFits → Chosen wanted reply cached (cond b from_reply from_cache)
  is_chosen true e s f = the_reply s ((fits_mean wanted reply).0 e)
  is_chosen false e s f = the_cached s (unfits e) (⊎_elim (λ r. absurd (unfits e r)) (λ c. c) f)

  chosen_is : (c : Choice) → Chosen wanted reply cached c → Sizes wanted reply cached × OneFits × (c ≡ the_one)
  chosen_is c (the_reply s f) = (s, inl f, rw ((fits_mean wanted reply).1 f))
  chosen_is c (the_cached s g f) =
      (s, inr f, ⊎_elim (λ t. absurd (g ((fits_mean wanted reply).0 t))) (λ e. rw e) (bool_cases (fits wanted reply)))

  why_given : (n p q : ℕ) → Given n p q → Why wanted reply cached n p q
  why_given n p q =
      ⊎_elim (λ w. rw (w.1, w.2, w.3) (lengths w.0))
      (λ w. rw (w.1.1, w.1.2, w.1.3) (neither w.0 (λ f. w.1.0 (inl f)) (λ f. w.1.0 (inr f))))

  given_why : (n p q : ℕ) → Why wanted reply cached n p q → Given n p q
  given_why n p q (lengths f) = inl (f, refl, refl, refl)
  given_why n p q (neither s f g) = inr (s, (⊎_elim f g, refl, refl, refl))

pub choose_means : ChooseMeans
choose_means wanted reply cached =
    let m = stages wanted reply cached in (
      λ c. (
        λ e. let w = means_accepted m e in rw w.1 (is_chosen wanted reply cached (fits wanted reply) refl w.0.0 w.0.1),
        λ w. let d = chosen_is wanted reply cached c w in m.accepts (d.0, d.1) ∙ rw d.2,
      ),
      λ n p q. (
        λ e. why_given wanted reply cached n p q (means_refused m e),
        λ w. m.refuses (given_why wanted reply cached n p q w),
      ),
    )
