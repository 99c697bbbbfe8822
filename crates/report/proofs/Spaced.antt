-- One more number after the first v.
use Prim.Native.Nat.{ℕ, ◌+◌, ◌<◌}
use mathlib.Core.List.{List, [], ◌∷◌, ◌++◌, append_assoc, append-nil}
use mathlib.Core.Path.{◌≡◌, refl, sym, ◌∙◌}
use native.Mathlib.Numerals.{add-one}
use lib.ListN.{length, get_or, take}
use lib.Seq.{take-suc}
use Rattle.report.specs.Printed.{spaced, all_spaced}

all_spaced_append : (s t : List ℕ) → all_spaced (s ++ t) ≡ all_spaced s ++ all_spaced t
unfolding all_spaced
all_spaced_append [] t = refl
all_spaced_append (n ∷ s) t = rw (all_spaced_append s t) (sym (append_assoc (spaced n) (all_spaced s) (all_spaced t)))

pub all_spaced_more :
    (ns : List ℕ) (v : ℕ) → v < length ns → all_spaced (take (v + 1) ns) ≡ all_spaced (take v ns) ++ spaced (get_or ns v 0)
unfolding all_spaced
all_spaced_more ns v h =
    rw (add-one v, take-suc ns v 0 h) (all_spaced_append (take v ns) (get_or ns v 0 ∷ []) ∙ rw append-nil)
