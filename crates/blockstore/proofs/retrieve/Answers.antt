-- An admission that refuses, a hash that is not held and a buffer that is too short are the definition's; otherwise the block is copied.
use mathlib.Core.List.{◌++◌}
use mathlib.Core.Path.{◌≡◌, sym, ap, ◌∙◌}
use native.Mathlib.Omega.{arith}
use lib.ListN.{length, drop}
use Rattle.refusal.specs.declared.Refusal.TheVariants.{NoRoom, NotHeld}
use Rattle.refusal.proofs.Done.{done_refused, done_returned, done_accepted}
use Rattle.store.specs.Place.{block_in}
use Rattle.store.specs.Calls.{retrieve_into}
use Rattle.blockstore.proofs.Laws.{front_copied}
use Rattle.blockstore.proofs.Admitted.{admitted}
use Rattle.blockstore.proofs.Calls.{held_at, retrieve_refused, retrieve_none, retrieve_no_room, retrieve_block}
use Rattle.blockstore.proofs.retrieve.Goals as goal

pub returns-in_err-admit : goal.returns-in_err-admit
unfolding retrieve_into
returns-in_err-admit c =
    let a = c.args in
    let d =
    done_returned length (λ b. b ++ drop (length b) a.out.now) a.out.now _ c.from_residual.result
    (retrieve_refused a.store.now a.hash.now (length a.out.now) c.admit.result c.admit.ensures c.in_err-admit.was)
    c.from_residual.ensures.1 in
    record { answers = d.0; leaves = d.1 }

pub place_of-requires : goal.place_of-requires
place_of-requires c = (admitted _ _ _ c.admit.result c.admit.ensures c.in_ok-admit.was).long

pub returns-in_default : goal.returns-in_default
unfolding retrieve_into
returns-in_default c =
    let a = c.args in
    let d =
    done_refused length (λ b. b ++ drop (length b) a.out.now) a.out.now NotHeld
    (retrieve_none a.store.now a.hash.now (length a.out.now) c.admit.result c.admit.ensures c.in_ok-admit.was
    (sym c.place_of.ensures ∙ c.in_default.is)) in
    record { answers = d.0; leaves = d.1 }

pub at-requires : goal.at-requires
at-requires c =
    ((admitted _ _ _ c.admit.result c.admit.ensures c.in_ok-admit.was).long, (held_at _ _ (sym c.place_of.ensures ∙ c.in-Some.is)).1)

pub returns-then-out-block : goal.returns-then-out-block
unfolding retrieve_into
returns-then-out-block c =
    let a = c.args in
    let d =
    done_refused length (λ b. b ++ drop (length b) a.out.now) a.out.now NoRoom
    (retrieve_no_room a.store.now a.hash.now (length a.out.now) c.admit.result c.admit.ensures c.in_ok-admit.was
    (sym c.place_of.ensures ∙ c.in-Some.is) _ (c.block-block.ensures.lies ∙ ap block_in c.at.ensures) c.if-out-block.true) in
    record { answers = d.0; leaves = d.1 }

pub returns : goal.returns
unfolding retrieve_into
returns c =
    let a = c.args in
    let n : c.copy.result ≡ length c.block-block.result.now = omega (arith, c.copy.ensures.count) in
    let d =
    done_accepted length (λ b. b ++ drop (length b) a.out.now) a.out.now
    (retrieve_block a.store.now a.hash.now (length a.out.now) c.admit.result c.admit.ensures c.in_ok-admit.was
    (sym c.place_of.ensures ∙ c.in-Some.is) _ (c.block-block.ensures.lies ∙ ap block_in c.at.ensures) c.if-out-block.false)
    n (front_copied c.block-block.result.now a.out.now _ (c.copy.ensures.copied (omega arith))) in
    record { answers = d.0; leaves = d.1 }
