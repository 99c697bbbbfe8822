use Prim.Native.Nat.{◌+◌, ◌-◌, ◌*◌}
use mathlib.Core.Path.{◌≡◌, sym, ◌∙◌}
use native.Mathlib.Nat.{sub-zero}
use native.Mathlib.Omega.{arith}
use lib.ListN.{length-set}
use borrow.Author.Rules.{rules}
use Rattle.layout.proofs.Strings.{same_true}
use Rattle.many.proofs.Hashes.{block_hash}
use Rattle.many.proofs.Along.{known_more, none_more, wrong_hash, refuses, ends_here, leads_on}
use Rattle.many.proofs.walk.walk.Goals as goal

pub loop-d-init : goal.loop-d-init
loop-d-init c = (search rules, search rules, rw sub-zero)

pub returns-then-not-has_hash : goal.returns-then-not-has_hash
returns-then-not-has_hash c =
    let l = c.loop-d in
    let a = c.args in
    let e = sym (block_hash a.paths.now (a.first + l.d) (omega arith) _) ∙ (sym c.has_hash.ensures ∙ c.if-not-has_hash.true) in
    record {
      answers = wrong_hash a.paths.now a.first a.n _ l.d l.link l.invariant.2 c.loop-d-test.true e;
      knows = l.invariant.1;
    }

pub returns-in_err-j : goal.returns-in_err-j
returns-in_err-j c =
    let l = c.loop-d in
    let a = c.args in
    let i = a.first + l.d in
    let e = sym (block_hash a.paths.now i (omega arith) _) ∙ (sym c.has_hash.ensures ∙ c.if-not-has_hash.false) in
    let w : 642 * i + 642 - 642 * i ≡ 642 = omega arith in
    record {
      answers =
          refuses a.paths.now a.first a.n _ l.d l.link l.invariant.2 c.loop-d-test.true e (rw w at c.consult.ensures)
          c.in_err-j.was _ c.from_residual.ensures.1 _;
      knows = known_more a.paths.now l.known l.d _ (omega arith) l.invariant.1 (omega arith, same_true _ _ e);
    }

pub returns-in-None : goal.returns-in-None
returns-in-None c =
    let l = c.loop-d in
    let a = c.args in
    let i = a.first + l.d in
    let e = sym (block_hash a.paths.now i (omega arith) _) ∙ (sym c.has_hash.ensures ∙ c.if-not-has_hash.false) in
    let w : 642 * i + 642 - 642 * i ≡ 642 = omega arith in
    record {
      answers =
          ends_here a.paths.now a.first a.n _ l.d l.link l.invariant.2 c.loop-d-test.true e (rw w at c.consult.ensures)
          c.in_ok-j.was c.in-None.is;
      knows = known_more a.paths.now l.known l.d _ (omega arith) l.invariant.1 (omega arith, same_true _ _ e);
    }

pub loop-d-preserved : goal.loop-d-preserved
loop-d-preserved c =
    let l = c.loop-d in
    let a = c.args in
    let i = a.first + l.d in
    let e = sym (block_hash a.paths.now i (omega arith) _) ∙ (sym c.has_hash.ensures ∙ c.if-not-has_hash.false) in
    let w : 642 * i + 642 - 642 * i ≡ 642 = omega arith in (
      simp length-set l.invariant.0,
      known_more a.paths.now l.known l.d _ (omega arith) l.invariant.1 (omega arith, same_true _ _ e),
      leads_on a.paths.now a.first a.n _ l.d l.link l.invariant.2 c.loop-d-test.true e (rw w at c.consult.ensures)
          c.in_ok-j.was c.in-Some.is (rw w at c.child-link.ensures),
    )

pub returns : goal.returns
returns c =
    let l = c.loop-d in
    let a = c.args in
    record {
      answers = none_more a.paths.now a.first a.n _ l.d l.link l.invariant.2 c.loop-d-test.false l.auto.d-end;
      knows = l.invariant.1;
    }
