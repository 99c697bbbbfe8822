-- An admission that refuses is the call's refusal; otherwise the block is counted where its hash is held, or put into a free place.
use Prim.Native.Nat.{◌≤◌}
use mathlib.Core.Path.{refl, sym, ◌∙◌}
use native.Mathlib.Omega.{arith}
use borrow.Author.Tests.{leb-true}
use lib.ListN.{length}
use Rattle.refusal.proofs.Match.{returned, gives_refused}
use Rattle.sha256.proofs.Laws.{hash_left}
use Rattle.blockstore.proofs.Admitted.{admitted}
use Rattle.blockstore.proofs.Calls.{held_at, store_refused, store_counted, store_filled}
use Rattle.blockstore.proofs.store.Goals as goal

pub returns-in_err-admit : goal.returns-in_err-admit
returns-in_err-admit c =
    let a = c.args in
    gives_refused (store_refused a.store.now a.user a.block.now c.admit.result c.admit.ensures c.in_err-admit.was)
    (returned c.from_residual.ensures.1)

pub place_of-requires : goal.place_of-requires
place_of-requires c = (admitted _ _ _ c.admit.result c.admit.ensures c.in_ok-admit.was).long

pub invariant_of-count_one : goal.invariant_of-count_one
invariant_of-count_one c =
    let w = admitted _ _ _ c.admit.result c.admit.ensures c.in_ok-admit.was in
    record { there = ((held_at _ _ (sym c.place_of.ensures ∙ c.in-Some.is)).1, omega (arith, w.user)) }

pub count_one-requires : goal.count_one-requires
count_one-requires c = (admitted _ _ _ c.admit.result c.admit.ensures c.in_ok-admit.was).long

pub fill_free-requires : goal.fill_free-requires
fill_free-requires c =
    let w = admitted _ _ _ c.admit.result c.admit.ensures c.in_ok-admit.was in
    (w.long, omega (arith, w.user), leb-true _ 8192 w.fitting)

pub returns-in-Some : goal.returns-in-Some
returns-in-Some c =
    let a = c.args in
    let short : length a.block.now ≤ 8192 = leb-true _ 8192 (admitted _ _ _ c.admit.result c.admit.ensures c.in_ok-admit.was).fitting in
    store_counted a.store.now a.user a.block.now c.admit.result c.admit.ensures c.in_ok-admit.was _
    (hash_left a.block.now _ _ _ (omega (arith, short)) refl c.sha256.ensures) (sym c.place_of.ensures ∙ c.in-Some.is) c.count_one.ensures

pub returns-in-None : goal.returns-in-None
returns-in-None c =
    let a = c.args in
    let short : length a.block.now ≤ 8192 = leb-true _ 8192 (admitted _ _ _ c.admit.result c.admit.ensures c.in_ok-admit.was).fitting in
    store_filled a.store.now a.user a.block.now c.admit.result c.admit.ensures c.in_ok-admit.was _
    (hash_left a.block.now _ _ _ (omega (arith, short)) refl c.sha256.ensures) (sym c.place_of.ensures ∙ c.in-None.is) c.fill_free.ensures
