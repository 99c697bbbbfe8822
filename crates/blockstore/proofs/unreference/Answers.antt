-- An admission that refuses and a hash that is not held are the definition's; otherwise one is taken at the place that holds it.
use mathlib.Core.Path.{sym, ◌∙◌}
use native.Mathlib.Omega.{arith}
use Rattle.refusal.specs.declared.Refusal.TheVariants.{NotHeld}
use Rattle.refusal.proofs.Done.{done_refused, done_returned, done_accepted}
use Rattle.store.specs.Calls.{Unreferenced}
use Rattle.blockstore.proofs.Admitted.{admitted}
use Rattle.blockstore.proofs.Calls.{held_at, unreference_refused, unreference_none, unreference_one}
use Rattle.blockstore.proofs.unreference.Goals as goal

pub returns-in_err-admit : goal.returns-in_err-admit
returns-in_err-admit c =
    let a = c.args in
    let d =
    done_returned (λ (t : Unreferenced). t.took) (λ (t : Unreferenced). t.after) a.store.now _ c.from_residual.result
    (unreference_refused a.store.now a.user a.hash.now c.admit.result c.admit.ensures c.in_err-admit.was)
    c.from_residual.ensures.1 in
    record { answers = d.0; leaves = d.1 }

pub place_of-requires : goal.place_of-requires
place_of-requires c = (admitted _ _ _ c.admit.result c.admit.ensures c.in_ok-admit.was).long

pub returns-in_default : goal.returns-in_default
returns-in_default c =
    let a = c.args in
    let d =
    done_refused (λ (t : Unreferenced). t.took) (λ (t : Unreferenced). t.after) a.store.now NotHeld
    (unreference_none a.store.now a.user a.hash.now c.admit.result c.admit.ensures c.in_ok-admit.was
    (sym c.place_of.ensures ∙ c.in_default.is)) in
    record { answers = d.0; leaves = d.1 }

pub invariant_of-uncount_one : goal.invariant_of-uncount_one
invariant_of-uncount_one c =
    let w = admitted _ _ _ c.admit.result c.admit.ensures c.in_ok-admit.was in
    record { there = ((held_at _ _ (sym c.place_of.ensures ∙ c.in-Some.is)).1, omega (arith, w.user)) }

pub uncount_one-requires : goal.uncount_one-requires
uncount_one-requires c = (admitted _ _ _ c.admit.result c.admit.ensures c.in_ok-admit.was).long

pub returns : goal.returns
returns c =
    let a = c.args in
    let d =
    done_accepted (λ (t : Unreferenced). t.took) (λ (t : Unreferenced). t.after) a.store.now
    (unreference_one a.store.now a.user a.hash.now c.admit.result c.admit.ensures c.in_ok-admit.was
    (sym c.place_of.ensures ∙ c.in-Some.is)) c.uncount_one.ensures.took c.uncount_one.ensures.after in
    record { answers = d.0; leaves = d.1 }
