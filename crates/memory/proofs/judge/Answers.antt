-- Each return but the last shows the condition of its refusal to be false; the last shows all three.
use mathlib.Core.Logic.{inl, inr}
use mathlib.Core.Path.{refl, sym}
use Rattle.search.proofs.Bool.{not_both}
use Rattle.memory.proofs.Judged.{steps_mean}
use Rattle.memory.proofs.judge.Goals as goal

pub returns-then-not-is_user : goal.returns-then-not-is_user
returns-then-not-is_user c =
    sym ((steps_mean _ _ _ _).refuses (inl (inl (λ f. not_both (c.is_user.ensures.1 f) (c.if-not-is_user.true), refl, refl, refl))))

pub returns-then-not-long : goal.returns-then-not-long
returns-then-not-long c =
    sym
    ((steps_mean _ _ _ _).refuses
    (inl (inr (c.is_user.ensures.0 (c.if-not-is_user.false), (λ f. not_both f (c.if-not-long.true), refl, refl, refl)))))

pub returns-then-not-good : goal.returns-then-not-good
returns-then-not-good c =
    sym
    ((steps_mean _ _ _ _).refuses
    (inr (
      (c.is_user.ensures.0 (c.if-not-is_user.false), c.if-not-long.false),
      (λ f. not_both f (c.if-not-good.true), refl, refl, refl),
    )))

pub returns : goal.returns
returns c =
    sym
    ((steps_mean _ _ _ _).accepts (
      (c.is_user.ensures.0 (c.if-not-is_user.false), c.if-not-long.false),
      c.if-not-good.false,
    ))
