-- The marked examples hold, by computation on their bytes.
use mathlib.Core.Path.{refl}
use Rattle.refusal.specs.Order.{in_order}
use Rattle.search.specs.Search.{find, every}
use Rattle.layout.specs.Strings.{same, zeros}
use Rattle.search.specs.Pairs.{every_pair, first_low, first_high}
use Rattle.layout.specs.Bytes.{four, bytes4, values}
use Rattle.itable.specs.Table.{blocks}
use Rattle.protocol.specs.Version.{counts, structure, well_formed, counts_before, counts_strictly_before}
use Rattle.protocol.specs.List.{entry, well_placed}
use Rattle.protocol.specs.Check.{next_counts, remembers, current, ordered, size_steps, form_steps, order_steps}
use Rattle.protocol.specs.Create.{length_steps, count_steps}
use Rattle.protocol.specs.MemoryFile.{held, formed, file_of, given_steps, sends_again, check_file, create_file}
use Rattle.protocol.specs.ForkedRun.{counting, two_counts}
use Rattle.claims.specs.Examples.{examples, ExamplesHold}

pub examples_hold : ExamplesHold
unfolding
    examples counting two_counts counts structure well_formed counts_before counts_strictly_before entry well_placed next_counts remembers current ordered
    size_steps form_steps order_steps length_steps count_steps held formed file_of given_steps sends_again check_file create_file four bytes4 values find
    every same zeros every_pair first_low first_high in_order blocks
examples_hold = (
  (refl, refl),
  (
    (refl, refl),
    (
      (refl, refl),
      (
        (refl, refl),
        (
          refl,
          (
            refl,
            (
              refl,
              (
                refl,
                (
                  refl,
                  (
                    (refl, refl),
                    (refl, (refl, (refl, (refl, (refl, (refl, (refl, (refl, (refl, (refl, (refl, (refl, tt)))))))))))),
                  ),
                ),
              ),
            ),
          ),
        ),
      ),
    ),
  ),
)
