-- Each return but the last shows the condition of its refusal to be false; the last shows both conditions.
use mathlib.Core.Logic.{inl, inr}
use mathlib.Core.Path.{refl, sym, ap, ◌∙◌}
use Rattle.refusal.specs.Answer.{accepted}
use native.Mathlib.Omega.{arith}
use Rattle.search.proofs.Bool.{not_both}
use Rattle.client.proofs.Lengths.{sizes_mean}
use Rattle.client.proofs.sizes.sizes.Goals as goal
use Rattle.client.proofs.sizes.sizes.Goals.{then-records-list-via-then-records-list, then-records-list-via-else-records-list+then-users-records, then-records-list-via-else-records-list+else-users-records+then-marks-records}

pub returns-then-not-is_user : goal.returns-then-not-is_user
returns-then-not-is_user c =
    sym ((sizes_mean _ _ _ _ _).refuses (inl (λ f. not_both (c.is_user.ensures.1 f) (c.if-not-is_user.true), refl, refl, refl)))

pub returns-then-records-list : goal.returns-then-records-list
returns-then-records-list c =
    sym
    ((sizes_mean _ _ _ _ _).refuses
    (inr (
      c.is_user.ensures.0 (c.if-not-is_user.false),
      (
        λ f.
            elim c.then-records-list.branch [
              | then-records-list-via-then-records-list w ↦ w.if-records-list.true (omega (arith, f.whole))
              | then-records-list-via-else-records-list+then-users-records w ↦ omega (arith, f.at_most)
              | then-records-list-via-else-records-list+else-users-records+then-marks-records w ↦
                  w.if-marks-records.true (omega (arith, f.one_mark_each))
            ],
        refl,
        refl,
        refl,
      ),
    )))

pub returns : goal.returns
returns c =
    ap accepted c.new.ensures ∙
    sym
    ((sizes_mean _ _ _ _ _).accepts (
      c.is_user.ensures.0 (c.if-not-is_user.false),
      record {
        none_or_one = inl refl;
        whole = omega arith;
        at_most = omega arith;
        one_mark_each = omega arith;
      },
    ))
