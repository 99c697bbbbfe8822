-- A number of blocks that no path has is refused by the lookup itself; any other path is walked along, from the handle on. There is no loop.
use mathlib.Core.Logic.{inl, inr}
use mathlib.Core.Path.{sym, ap, ◌∙◌}
use native.Mathlib.Omega.{arith}
use Rattle.layout.proofs.Values.{values_whole}
use Rattle.itable.specs.Block.{to_root}
use Rattle.itable.specs.Lookup.{consult}
use Rattle.itable.specs.declared.Link.{Link}
use Rattle.itable.proofs.CountRefused.{no_path}
use Rattle.itable.proofs.Paths.{lookup_consults}
use Rattle.many.specs.Internal.Walk.{path_from}
use Rattle.many.proofs.Along.{from_long}
use Rattle.many.proofs.walk.ask.Goals.{then-n-lt1-via-then-n-lt1, then-n-lt1-via-else-n-lt1+then-n-gt3}
use Rattle.many.proofs.walk.ask.Goals as goal

pub returns-then-n-lt1 : goal.returns-then-n-lt1
returns-then-n-lt1 c =
    let a = c.args in
    let long = from_long a.paths.now a.first a.n c.requires.1 in
    record {
      answers =
          elim c.then-n-lt1.branch [
            | then-n-lt1-via-then-n-lt1 w ↦ sym (no_path _ _ _ a.n long (inl (omega arith)))
            | then-n-lt1-via-else-n-lt1+then-n-gt3 w ↦ sym (no_path _ _ _ a.n long (inr w.if-n-gt3.true))
          ];
      knows = c.requires.2;
    }

pub returns : goal.returns
returns c =
    let a = c.args in
    let path = path_from a.paths.now a.first a.n in
    let long = from_long a.paths.now a.first a.n c.requires.1 in
    let e = c.root-root.ensures ∙ ap to_root (c.bytes32.ensures ∙ values_whole _ 32 c.requires.0) in
    let due = lookup_consults _ a.number path a.n c.requires.0 long c.if-n-lt1.false c.if-n-gt3.false in
    record {
      answers = c.walk.ensures.answers ∙ (ap (λ (k : Link). consult path a.number a.n 0 k) e ∙ sym due);
      knows = c.walk.ensures.knows;
    }
