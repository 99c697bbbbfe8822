-- The examples of large files hold, by computation.
use mathlib.Core.Path.{refl}
use Rattle.claims.specs.Examples.{large_examples, LargeExamples}

pub large_examples_hold : LargeExamples
unfolding large_examples
large_examples_hold = (refl, (refl, (refl, (refl, (refl, tt)))))
