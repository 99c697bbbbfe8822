-- Nothing held is before everything; else how the counts stand decides. There is no loop.
use mathlib.Core.Path.{sym, ◌∙◌}
use Rattle.version.proofs.Match.{is_before_by}
use Rattle.version.proofs.Laws.{before_counts}
use Rattle.version.specs.Version.{count_in}
use Rattle.server.proofs.checks.in_order.Goals as goal

pub returns-else-is_empty : goal.returns-else-is_empty
returns-else-is_empty c =
    rw (sym c.if-is_empty.ensures)
    (is_before_by _ _ c.compare.result c.compare.ensures c.eq.ensures ∙ rw c.counts.ensures (before_counts c.args.held.now (count_in c.args.new.now)))
