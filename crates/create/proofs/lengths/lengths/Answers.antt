-- Each return but the last shows the condition of its refusal to be false; the last shows both conditions.
use mathlib.Core.Logic.{inl, inr}
use mathlib.Core.Path.{refl, sym}
use native.Mathlib.Omega.{arith}
use Rattle.search.proofs.Bool.{not_both}
use Rattle.create.proofs.Stages.{lengths_mean}
use Rattle.create.proofs.lengths.lengths.Goals as goal

pub returns-then-not-is_user : goal.returns-then-not-is_user
returns-then-not-is_user c =
    sym
    ((lengths_mean _ _ _ _ _ _).refuses (inl (λ f. not_both (c.is_user.ensures.1 f) (c.if-not-is_user.true), refl, refl, refl)))

pub returns-then-counts-ne16 : goal.returns-then-counts-ne16
returns-then-counts-ne16 c =
    let which = c.then-counts-ne16.either in
    sym
    ((lengths_mean _ _ _ _ _ _).refuses
    (inr (c.is_user.ensures.0 (c.if-not-is_user.false), (λ f. omega (arith, which), refl, refl, refl))))

pub returns : goal.returns
returns c =
    sym
    ((lengths_mean _ _ _ _ _ _).accepts (
      c.is_user.ensures.0 (c.if-not-is_user.false),
      record {
        none_or_one = inl refl;
        sixteen = omega arith;
        handle_long = omega arith;
        answer_long = omega arith;
      },
    ))
