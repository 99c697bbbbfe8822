-- The tests by themselves decide the answer: where one refuses, nothing is written, and where all pass, the record is put into its owner's
-- place. There is no loop.
use mathlib.Core.Path.{refl, sym, ap, ◌∙◌}
use borrow.Author.Rules.{rules}
use Rattle.refusal.specs.Answer.{accepted}
use Rattle.refusal.specs.Refusal.{said}
use Rattle.protocol.specs.declared.Server.{Server}
use Rattle.refusal.proofs.Match.{gives_refused}
use Rattle.refusal.proofs.Stage.{hands_on, goes_on_to, gives_result}
use Rattle.protocol.specs.Server.{commit_steps, replaced}
use Rattle.server.proofs.Lent.{other_size, by_steps}
use Rattle.server.proofs.Steps.{owned}
use Rattle.server.proofs.commit_into.Goals as goal

pub returns-then-records-ne-RECORDS : goal.returns-then-records-ne-RECORDS
returns-then-records-ne-RECORDS c =
    let a = c.args in
    gives_refused (other_size a.users a.records.now a.x.now a.mark c.if-records-ne-RECORDS.true) refl

pub returns-in_err-commit_check : goal.returns-in_err-commit_check
returns-in_err-commit_check c =
    let a = c.args in
    let s : Server = record { users = a.users; records = a.records.now } in
    hands_on (commit_steps s a.x.now a.mark) (accepted (replaced s a.x.now).records)
    (by_steps a.users a.records.now a.x.now a.mark c.if-records-ne-RECORDS.false) c.commit_check.result c.commit_check.ensures
    c.in_err-commit_check.was c.from_residual.ensures.1

pub replace-requires : goal.replace-requires
replace-requires c =
    let a = c.args in
    -- What the tests say of a record that passed them.
    let f =
    owned (record { users = a.users; records = a.records.now }) a.x.now a.mark (ap said (sym c.in_ok-commit_check.was) ∙ c.commit_check.ensures) in
    (search rules, f.0, rw c.owner.ensures f.1)

pub returns : goal.returns
unfolding replaced
returns c =
    let a = c.args in
    let s : Server = record { users = a.users; records = a.records.now } in
    let d = by_steps a.users a.records.now a.x.now a.mark c.if-records-ne-RECORDS.false in
    gives_result a.records.now _
    (goes_on_to (commit_steps s a.x.now a.mark) (accepted (replaced s a.x.now).records) d c.commit_check.result c.commit_check.ensures
    c.in_ok-commit_check.was) (rw c.owner.ensures at c.replace.ensures)
