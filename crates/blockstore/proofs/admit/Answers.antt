-- Each test is the definition's, in its order.
use mathlib.Core.Path.{sym, ◌∙◌}
use Rattle.blockstore.proofs.Admitted.{no_user, other_length, unfitting, unfit_place, admits}
use Rattle.blockstore.proofs.admit.Goals as goal

pub returns-then-user-gt15 : goal.returns-then-user-gt15
returns-then-user-gt15 c = sym (no_user _ _ _ c.if-user-gt15.true)

pub returns-then-store-ne-SIZE : goal.returns-then-store-ne-SIZE
returns-then-store-ne-SIZE c = sym (other_length _ _ _ c.if-user-gt15.false c.if-store-ne-SIZE.true)

pub returns-then-not-fits : goal.returns-then-not-fits
returns-then-not-fits c =
    sym (unfitting _ _ _ c.if-user-gt15.false c.if-store-ne-SIZE.false (c.if-not-fits.true))

pub returns-in-Some : goal.returns-in-Some
returns-in-Some c =
    sym
    (unfit_place _ _ _ c.if-user-gt15.false c.if-store-ne-SIZE.false (c.if-not-fits.false) (sym c.first_unfit.ensures ∙ c.in-Some.is))

pub returns-in-None : goal.returns-in-None
returns-in-None c =
    sym (admits _ _ _ c.if-user-gt15.false c.if-store-ne-SIZE.false (c.if-not-fits.false) (sym c.first_unfit.ensures ∙ c.in-None.is))
