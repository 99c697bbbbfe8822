use mathlib.Core.Path.{sym, ap, ◌∙◌}
use native.Mathlib.Omega.{arith}
use borrow.Author.Tests.{eq-eqb, ne_eqb}
use Rattle.search.proofs.Search.{find_first, find_last, span_more}
use Rattle.layout.proofs.Parts.{part_past}
use Rattle.protocol.specs.List.{record_at, entry}
use Rattle.client.proofs.records.Records.entry.Goals as goal

pub returns-then-owner-user : goal.returns-then-owner-user
unfolding entry
returns-then-owner-user c =
    c.at.ensures ∙
    ap (record_at c.args.self.now)
    (sym (find_first _ _ _ (omega arith) c.loop-i.invariant (eq-eqb _ _ (sym c.owner.ensures ∙ c.if-owner-user.true))))

pub loop-i-preserved : goal.loop-i-preserved
loop-i-preserved c = span_more _ _ c.loop-i.invariant (ne_eqb _ _ (λ e. c.if-owner-user.false (c.owner.ensures ∙ e)))

pub returns : goal.returns
unfolding entry
returns c =
    ap (record_at c.args.self.now) (find_last _ _ (λ m h l. c.loop-i.invariant m h (omega arith))) ∙
    part_past 98 c.args.self.now _ (omega arith)
