-- The test of the buffer's length is the definition's; after it the lookup's own answer says what the number is, and whether the handle is
-- copied. There is no loop.
use mathlib.Core.Path.{◌≡◌, ap, ◌∙◌}
use Rattle.std.specs.Prelude.{Ok}
use native.Mathlib.Omega.{arith}
use lib.ListN.{length}
use Rattle.sundr.proofs.Into.{not_32, is_found_means, is_absent, is_refused}
use borrow.Author.Rules.{rules}
use Rattle.sundr.proofs.table.sundr_lookup.Goals as goal

pub returns-then-out-ne32 : goal.returns-then-out-ne32
returns-then-out-ne32 c =
    let a = c.args in
    let t = not_32 a.handle.now a.number a.path.now a.out.now (omega arith) c.refusal_word.ensures in
    record {
      answer = t.number;
      buffer = t.buffer;
    }

pub returns-in-Ok-Some : goal.returns-in-Ok-Some
returns-in-Ok-Some c =
    let a = c.args in
    let l : length c.in-Ok-Some.found ≡ 32 = search rules in
    let g = is_found_means a.handle.now a.number a.path.now a.out.now (omega arith) c.lookup.ensures in
    let t = g (c.in-Ok-Some.is ∙ ap Ok c.in-Ok-Some.field-0-is) l c.word.ensures (c.copy.ensures.copied (omega arith)) in
    record {
      answer = t.number;
      buffer = t.buffer;
    }

pub returns-in-Ok-None : goal.returns-in-Ok-None
returns-in-Ok-None c =
    let a = c.args in
    let g = is_absent a.handle.now a.number a.path.now a.out.now (omega arith) c.lookup.ensures in
    let t = g (c.in-Ok-None.is ∙ ap Ok c.in-Ok-None.field-0-is) c.word-in-Ok-None.ensures in
    record {
      answer = t.number;
      buffer = t.buffer;
    }

pub returns-in-Err : goal.returns-in-Err
returns-in-Err c =
    let a = c.args in
    let g = is_refused a.handle.now a.number a.path.now a.out.now (omega arith) c.lookup.ensures in
    let t = g c.in-Err.is c.refusal_word-in-Err.ensures in
    record {
      answer = t.number;
      buffer = t.buffer;
    }
