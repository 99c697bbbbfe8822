-- The orders, as `== Before` and `!= Apart` read them in the comparison's answer.
use Prim.Native.Nat.{ℕ}
use mathlib.Core.Bool.{Bool, not, ◌||◌}
use mathlib.Core.Path.{◌≡◌, refl, sym, ap, ◌∙◌}
use denote.Enum.Bare.{sameb}
use Rattle.protocol.specs.Version.{counts_before, counts_strictly_before, standing}
use Rattle.protocol.proofs.Standing.{is_before, is_ordered, strictly_read, ordered_read}
use Rattle.version.specs.Version.{standing_as}
use Rattle.version.specs.declared.Standing.{Standing}
use Rattle.version.specs.declared.Standing.TheVariants.{Equal, Before, After, Apart}
use Rattle.version.specs.contracts.Standing.{the_type}

same_before : (s : Standing) → sameb the_type s Before ≡ is_before (standing_as s)
same_before Equal = refl
same_before Before = refl
same_before After = refl
same_before Apart = refl

same_apart : (s : Standing) → not (sameb the_type s Apart) ≡ is_ordered (standing_as s)
same_apart Equal = refl
same_apart Before = refl
same_apart After = refl
same_apart Apart = refl

module _ (f g : ℕ → ℕ) (s : Standing) (e : standing_as s ≡ standing f g) {b : Bool} where
  pub is_before_by : b ≡ sameb the_type s Before → b ≡ counts_strictly_before f g
  is_before_by h = h ∙ (same_before s ∙ (ap is_before e ∙ sym (strictly_read f g)))

  pub is_ordered_by : b ≡ not (sameb the_type s Apart) → b ≡ (counts_before f g || counts_before g f)
  is_ordered_by h = h ∙ (same_apart s ∙ (ap is_ordered e ∙ sym (ordered_read f g)))
