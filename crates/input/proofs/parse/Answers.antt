-- Each `return None` has a fact of the form that fails, and the last return has them all. The parts are cut where the form has them.
use mathlib.Core.Path.{sym}
use native.Mathlib.Omega.{arith}
use Rattle.input.proofs.Apart.{memory_cut, sent_cut, remembered_bytes}
use Rattle.input.proofs.Conditions.{is_formed, not_formed, flag_in}
use Rattle.input.proofs.parse.Goals as goal

pub returns-then-input-lt-MEMORY-clause-variant : goal.returns-then-input-lt-MEMORY-clause-variant
returns-then-input-lt-MEMORY-clause-variant c = not_formed _ (λ f. omega (arith, f.head, f.short, c.then-input-lt-MEMORY.either))

pub returns-in_err-n-clause-variant : goal.returns-in_err-n-clause-variant
returns-in_err-n-clause-variant c =
    rw c.from_residual.ensures (not_formed _ (λ f. omega (arith, f.flagged, flag_in _ _ c.split_at.ensures.front, c.in_err-n.ensures)))

pub returns-then-rest-n-clause-variant : goal.returns-then-rest-n-clause-variant
returns-then-rest-n-clause-variant c =
    let m = rw (flag_in _ _ c.split_at.ensures.front) at c.in_ok-n.ensures in
    not_formed _ (λ f. omega (arith, f.remembered, m.1, c.split_at.ensures.back_len, c.if-rest-n.true))

pub returns-then-sent-ne0-clause-variant : goal.returns-then-sent-ne0-clause-variant
returns-then-sent-ne0-clause-variant c =
    let m = rw (flag_in _ _ c.split_at.ensures.front) at c.in_ok-n.ensures in
    not_formed _ (λ f. omega (arith, f.whole, m.1, c.split_at.ensures.back_len, c.split_at-2.ensures.back_len, c.if-sent-ne0.true))

pub invariant_of-result : goal.invariant_of-result
invariant_of-result c =
    let a = c.split_at.ensures.back_len in
    let b = c.split_at-2.ensures in
    record {
      none_or_one = rw b.front_len (remembered_bytes _ _ c.in_ok-n.ensures.1);
      sixteen_at_most = omega (arith, a, b.back_len);
    }

pub returns-clause-variant : goal.returns-clause-variant
returns-clause-variant c =
    let m = rw (flag_in _ _ c.split_at.ensures.front) at c.in_ok-n.ensures in
    let a = c.split_at.ensures.back_len in
    let b = c.split_at-2.ensures.back_len in
    sym (is_formed _ (record {
      head = omega (arith, a);
      flagged = m.0;
      remembered = omega (arith, a, b, m.1);
      whole = omega (arith, a, b, m.1, c.if-sent-ne0.false);
      short = omega arith;
    }))

pub returns-clause-memory : goal.returns-clause-memory
returns-clause-memory c =
    let m = rw (flag_in _ _ c.split_at.ensures.front) at c.in_ok-n.ensures in
    rw (c.split_at-2.ensures.front, c.split_at.ensures.back) (memory_cut c.args.input.now _ m.1)

pub returns-clause-sent : goal.returns-clause-sent
returns-clause-sent c =
    let m = rw (flag_in _ _ c.split_at.ensures.front) at c.in_ok-n.ensures in
    rw (c.split_at-2.ensures.back, c.split_at.ensures.back) (sent_cut c.args.input.now _ m.1)
