-- The example's output, by computation on its bytes.
use mathlib.Core.Path.{refl}
use Rattle.refusal.specs.Order.{in_order}
use Rattle.search.specs.Search.{find, every}
use Rattle.layout.specs.Strings.{same}
use Rattle.search.specs.Pairs.{every_pair, first_low, first_high}
use Rattle.layout.specs.Bytes.{four, bytes4, values}
use Rattle.protocol.specs.Version.{counts, structure, well_formed, counts_before, counts_strictly_before}
use Rattle.protocol.specs.List.{entry, well_placed}
use Rattle.protocol.specs.Check.{next_counts, remembers, current, ordered, size_steps, form_steps, order_steps, check}
use Rattle.protocol.specs.Create.{length_steps, count_steps, create}
use Rattle.protocol.specs.ForkedRun.{counting}
use Rattle.input.specs.Form.{memory, behind_memory, first_marks, first_records, formed}
use Rattle.input.specs.Report.{answered, judgement}
use Rattle.report.specs.Decimal.{width, decimal}
use Rattle.report.specs.Printed.{all_spaced, desk_line, accept_line, printed}
use Rattle.report.specs.ExamplePrinted.{example_input, ExamplePrinted}

pub example_printed : ExamplePrinted
unfolding
    example_input counting counts structure well_formed counts_before counts_strictly_before entry well_placed next_counts remembers current ordered
    size_steps form_steps order_steps check length_steps count_steps create four bytes4 values find every same every_pair first_low first_high in_order memory behind_memory
    first_marks first_records formed answered judgement width decimal all_spaced desk_line accept_line printed
example_printed = refl
