-- A stage of tests in code: what its answer says of the whole call.
use mathlib.Core.List.{List}
use mathlib.Core.Path.{◌≡◌, sym, ap, ◌∙◌}
use Rattle.std.specs.Prelude.{Result, Ok, Err}
use Rattle.std.specs.Result.{IsErrAnd}
use Rattle.refusal.specs.Answer.{Answer, accepted, and_then}
use Rattle.refusal.specs.Order.{Step, in_order, tried}
use Rattle.refusal.specs.Refusal.{refusal, said}
use Rattle.refusal.specs.Result.{Gives, left}
use Rattle.refusal.specs.declared.Refusal.{Refusal}
use Rattle.refusal.proofs.Match.{returned, gives_refused as gives-refusal}
use Rattle.refusal.proofs.Numbered.{ends}
use Rattle.refusal.proofs.Order.{in_stage}

module _ {A : Type 0} (ts : List Step) (c : Result Unit Refusal) (e : said c ≡ tried ts) where
  stage : (a : Answer A) → in_order ts a ≡ and_then (said c) (λ u. a)
  stage a = in_stage ts a ∙ ap (λ (r : Answer Unit). and_then r (λ u. a)) (sym e)

  pub stage_passed : (a : Answer A) → c ≡ Ok tt → in_order ts a ≡ a
  stage_passed a p = stage a ∙ rw p

  pub stage_refused : {r : Refusal} (a : Answer A) → c ≡ Err r → in_order ts a ≡ refusal r
  stage_refused {r} a p = stage a ∙ rw p (ends r (λ (u : Unit {0}). a))

  -- A call that is this stage: what is there after it is its result where the stage passes, and as it was where it refuses.
  pub gives_passed : {after : A} (before result : A) → after ≡ result → c ≡ Ok tt → Gives (in_order ts (accepted result)) before after c
  gives_passed before result w p =
      let d = stage_passed (accepted result) p in record { answers = rw (d, p, w); leaves = rw d w }

  pub gives_refused :
      {r : Refusal} {after : A} (before result : A) → after ≡ before → c ≡ Err r → Gives (in_order ts (accepted result)) before after c
  gives_refused before result w p = rw w (gives-refusal (stage_refused (accepted result) p) p)

module _ {A : Type 0} {due : Answer A} where
  -- A call of which a stage is left, and then the answer x: the refusal that `?` hands on is the call's, and where the
  -- stage passes x is left.
  module _ (ts : List Step) (x : Answer A) (d : due ≡ in_order ts x) (c : Result Unit Refusal) (e : said c ≡ tried ts) where
    pub refuses : {r : Refusal} → c ≡ Err r → due ≡ refusal r
    refuses w = d ∙ stage_refused ts c e x w

    pub hands_on :
        {before : A} {r : Refusal} {answer : Result Unit Refusal} → c ≡ Err r → IsErrAnd answer (λ s. s ≡ r) →
        Gives due before before answer
    hands_on w h = gives-refusal (refuses w) (returned h)

    pub tells_on : {r : Refusal} (answer : Result A Refusal) → c ≡ Err r → IsErrAnd answer (λ s. s ≡ r) → said answer ≡ due
    tells_on answer w h = rw (returned h) (sym (refuses w))

    pub goes_on_to : {u : Unit {0}} → c ≡ Ok u → due ≡ x
    goes_on_to w = d ∙ stage_passed ts c e x w

  -- A call of which no stage is left: what is there after it is its result.
  pub gives_result : {result : A} (before after : A) → due ≡ accepted result → after ≡ result → Gives due before after (Ok tt)
  gives_result before after d w =
      record { answers = rw w (sym d); leaves = w ∙ ap (λ (a : Answer A). left a before) (sym d) }
