-- The stages one after the other: each refusal is handed on as it is, and the third one's answer is the check's.
use mathlib.Core.Path.{◌∙◌}
use Rattle.client.proofs.Told.{tells_refused}
use Rattle.client.proofs.Finish.{
  sizes_refuse,
  user_below,
  one_mark_each,
  given_refuse,
  held_whole,
  forms_refuse,
  owned,
  order_answers,
}
use Rattle.client.proofs.check.Goals as goal

pub returns-in_err-list : goal.returns-in_err-list
returns-in_err-list c =
    tells_refused _ _ (sizes_refuse _ _ c.args.file.now _ _ c.sizes.result c.sizes.ensures c.in_err-list.was)
    c.from_residual.ensures.1

pub returns-in_err-given : goal.returns-in_err-given
returns-in_err-given c =
    tells_refused _ _
    (given_refuse _ _ _ _ _ c.sizes.result c.sizes.ensures c.in_ok-list.was c.given.result c.given.ensures c.in_err-given.was)
    c.from_residual-in_err-given.ensures.1

pub forms-requires : goal.forms-requires
forms-requires c = one_mark_each _ _ c.args.file.now _ _ c.sizes.result c.sizes.ensures c.in_ok-list.was

pub returns-in_err-forms : goal.returns-in_err-forms
returns-in_err-forms c =
    tells_refused _ _
    (forms_refuse _ _ _ _ _ c.sizes.result c.sizes.ensures c.in_ok-list.was c.given.result c.given.ensures c.in_ok-given.was
    c.forms.result c.forms.ensures c.in_err-forms.was) c.from_residual-in_err-forms.ensures.1

pub order-requires : goal.order-requires
order-requires c =
    let s = c.sizes in record {
      user_bound = user_below _ _ c.args.file.now _ _ s.result s.ensures c.in_ok-list.was;
      held_whole =
          held_whole _ _ _ _ _ s.result s.ensures c.in_ok-list.was c.given.result c.given.ensures c.in_ok-given.was _ _
          c.held.ensures c.pending.ensures;
      by_index =
          owned _ _ _ _ _ s.result s.ensures c.in_ok-list.was c.given.result c.given.ensures c.in_ok-given.was
          c.forms.result c.forms.ensures c.in_ok-forms.was;
    }

pub returns : goal.returns
returns c =
    c.order.ensures ∙
    order_answers _ _ _ _ _ c.sizes.result c.sizes.ensures c.in_ok-list.was c.given.result c.given.ensures c.in_ok-given.was
    c.forms.result c.forms.ensures c.in_ok-forms.was _ _ c.held.ensures c.pending.ensures
