-- The tests with which the four calls begin, by their conditions, and what is known once they have passed.
use Prim.Native.Nat.{ℕ}
use mathlib.Core.Bool.{Bool, true, false, ◌&&◌, ◌||◌}
use mathlib.Core.List.{List}
use mathlib.Core.Logic.{◌⊎◌}
use mathlib.Core.Path.{◌≡◌, refl, sym, ap, ◌∙◌}
use borrow.Author.Tests.{eqb-true}
use lib.Dec.{eqb}
use lib.ListN.{length}
use Rattle.std.specs.Prelude.{Result, Ok}
use Rattle.search.proofs.Bool.{not_both, both_true}
use Rattle.refusal.specs.Order.{tried}
use Rattle.refusal.specs.Refusal.{said}
use Rattle.refusal.specs.declared.Refusal.{Refusal}
use Rattle.refusal.proofs.Means.{Stage, Either, Unless, and_then_means, test_means, means_accepted}
use Rattle.protocol.specs.Version.{size}
use Rattle.protocol.specs.Meaning.{Users}
use Rattle.protocol.specs.MemoryFile.{file_steps}
use Rattle.protocol.proofs.CheckMeans.{users_stage}
use Rattle.protocol.proofs.Conditions.{none_or_one}

module _ (N u : ℕ) (long good : Bool) where
  pub steps_mean :
      Stage (file_steps N u long good) ((Users N u × (long ≡ true)) × (good ≡ true))
      (Either (Users N u × (long ≡ true)) (Either (Users N u) (Unless (Users N u) 1 0 0) (Unless (long ≡ true) 2 0 0))
      (Unless (good ≡ true) 3 16 0))
  unfolding file_steps
  steps_mean =
      and_then_means _ _ (and_then_means _ _ (users_stage N u) (λ w. test_means long 2 0 0 (λ e. e, λ e. e))) (λ w. test_means good 3 16 0 (λ e. e, λ e. e))

  pub was_long : (c : Result Unit Refusal) → said c ≡ tried (file_steps N u long good) → {u : Unit {0}} → c ≡ Ok u → long ≡ true
  was_long c e p = (means_accepted steps_mean (sym e ∙ ap said p)).0.0.1

-- Two lengths that are tested at once.
pub both_long : (x : Bool) (a n b m : ℕ) → x ≡ (eqb a n && eqb b m) → x ≡ true → (a ≡ n) × (b ≡ m)
both_long x a n b m e t =
    let w = both_true (eqb a n) (eqb b m) (sym e ∙ t) in (eqb-true a n w.0, eqb-true b m w.1)

-- A test that is true where another is, and the other where it is.
same_test : (a b : Bool) → (a ≡ true → b ≡ true) → (b ≡ true → a ≡ true) → a ≡ b
same_test true b f g = sym (f refl)
same_test false true f g = absurd (not_both (g refl) refl)
same_test false false f g = refl

-- The lengths of what is moved over and of the answer's buffer, tested at once; the code tests the first by its conditions.
module _ (old : List ℕ) (room : ℕ) (n x : Bool)
    (h : (n ≡ true → (length old ≡ 0) ⊎ (length old ≡ size)) × ((length old ≡ 0) ⊎ (length old ≡ size) → n ≡ true))
    (e : x ≡ (n && eqb room 100)) where
  pub over_test : x ≡ ((eqb (length old) 0 || eqb (length old) size) && eqb room 100)
  over_test =
      e ∙
      ap (λ (t : Bool). t && eqb room 100)
      (same_test n (eqb (length old) 0 || eqb (length old) size) (λ t. (none_or_one old).1 (h.0 t)) (λ t. h.1 ((none_or_one old).0 t)))

  pub over_long : x ≡ true → ((length old ≡ 0) ⊎ (length old ≡ size)) × (room ≡ 100)
  over_long t = let w = both_true n (eqb room 100) (sym e ∙ t) in (h.0 w.0, eqb-true room 100 w.1)
