-- Two tests, the first with the one for "send again", and then the pairs against a structure of the next counts, which are handed back
-- where these pass.
use Prim.Native.Nat.{ℕ, ◌≤◌}
use mathlib.Core.Bool.{Bool, true}
use mathlib.Core.Path.{◌≡◌, sym, ap, ◌∙◌}
use native.Mathlib.Omega.{arith}
use lib.Seq.{take_all, length-take-le}
use Rattle.refusal.proofs.Stage.{refuses, goes_on_to}
use Rattle.protocol.specs.MemoryFile.{next}
use Rattle.refusal.specs.Answer.{accepted}
use Rattle.client.proofs.ThirdStage.{is_pending, is_again, not_current, last_version, values_next, then_pairs}
use Rattle.client.proofs.Told.{tells_refused}
use Rattle.client.proofs.order.order.Goals as goal

whole_if : {p : Bool} {n : ℕ} → (p ≡ true → n ≡ 98) → p ≡ true → 98 ≤ n
whole_if w e = let l = w e in omega (arith, l)

pub slice_bounds-copy-end : goal.slice_bounds-copy-end
slice_bounds-copy-end c =
    let p = is_pending _ _ _ _ _ c.current-listed.ensures _ c.count-own.ensures c.if-not-listed.true _ c.is_before.ensures c.if-is_before.true in
    sym (length-take-le 98 c.args.held.now (whole_if c.requires.held_whole p))

pub returns-then-is_before : goal.returns-then-is_before
returns-then-is_before c =
    let p = is_pending _ _ _ _ _ c.current-listed.ensures _ c.count-own.ensures c.if-not-listed.true _ c.is_before.ensures c.if-is_before.true in
    let l = c.requires.held_whole p in
    is_again _ _ _ _ _ c.current-listed.ensures _ c.count-own.ensures c.if-not-listed.true _ c.is_before.ensures c.if-is_before.true
    c.requires.held_whole _ (rw (take_all 98 c.args.held.now (omega (arith, l))) at c.copy.ensures.copied)

pub returns-then-not-listed : goal.returns-then-not-listed
returns-then-not-listed c =
    not_current _ _ _ _ _ c.current-listed.ensures _ c.count-own.ensures c.if-not-listed.true _ c.is_before.ensures c.if-is_before.false

pub returns-then-own : goal.returns-then-own
returns-then-own c =
    last_version _ _ _ _ _ c.current-listed.ensures _ c.count-own.ensures c.if-not-listed.false (omega arith)

pub returns-in_err-pairs : goal.returns-in_err-pairs
returns-in_err-pairs c =
    tells_refused _ _
    (refuses _ _ (then_pairs _ _ _ _ _ c.current-listed.ensures _ c.count-own.ensures c.if-not-listed.false (λ e. omega arith))
    c.pairs.result (c.pairs.ensures _ (values_next _ _ _ c.counts-counts.ensures)) c.in_err-pairs.was) c.from_residual.ensures.1

pub returns : goal.returns
returns c =
    ap (λ x. accepted (next x)) c.counts-counts.ensures ∙
    sym
    (goes_on_to _ _ (then_pairs _ _ _ _ _ c.current-listed.ensures _ c.count-own.ensures c.if-not-listed.false (λ e. omega arith))
    c.pairs.result (c.pairs.ensures _ (values_next _ _ _ c.counts-counts.ensures)) c.in_ok-pairs.was)
