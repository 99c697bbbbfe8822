-- The check is asked about the parts of the input, on the file of what is remembered, and then the making step with what it gives; the answer of
-- the last call is told.
use mathlib.Core.Path.{ap, ◌∙◌}
use Rattle.std.specs.Prelude.{Ok}
use Rattle.input.proofs.Told.{told_check, told_again, told_unmade, told_made}
use Rattle.input.proofs.ask.Goals as goal

pub returns-in_err-counts : goal.returns-in_err-counts
returns-in_err-counts c =
    told_check _ _ _ _ _ _ c.requires (c.file_of-file.ensures.laid c.requires) _ c.check.ensures _ _ c.in_err-counts.was
    c.from_residual.ensures.1

pub returns-in_err-create-in-Next : goal.returns-in_err-create-in-Next
returns-in_err-create-in-Next c =
    told_unmade _ _ _ _ _ _ c.requires (c.file_of-file.ensures.laid c.requires) _ c.check.ensures _
    (c.in_ok-counts.was ∙ ap Ok c.in-Next.is) _ _ c.create.ensures.answers _ c.in_err-create-in-Next.was
    c.from_residual-in_err-create-in-Next.ensures.1

pub returns-in_ok-create-in-Next : goal.returns-in_ok-create-in-Next
returns-in_ok-create-in-Next c =
    told_made _ _ _ _ _ _ c.requires (c.file_of-file.ensures.laid c.requires) _ c.check.ensures _
    (c.in_ok-counts.was ∙ ap Ok c.in-Next.is) _ _ c.create.ensures.answers _ c.in_ok-create-in-Next.was c.counts.ensures

pub returns-in-Again : goal.returns-in-Again
returns-in-Again c =
    told_again _ _ _ _ _ _ c.requires (c.file_of-file.ensures.laid c.requires) _ c.check.ensures
    (c.in_ok-counts.was ∙ ap Ok c.in-Again.is)
