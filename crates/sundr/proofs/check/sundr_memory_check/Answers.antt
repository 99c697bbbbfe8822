-- Each refusal is told as it is, with nothing written; where the check gives counts they are put into the array, and what it wants sent again is
-- copied into the buffer.
use Rattle.std.specs.Prelude.{Ok}
use mathlib.Core.Path.{◌≡◌, refl, ap, ◌∙◌}
use native.Mathlib.Omega.{arith}
use lib.ListN.{length}
use Rattle.layout.proofs.Copied.{copied_over}
use Rattle.protocol.specs.Version.{size}
use Rattle.sundr.proofs.Counts.{room_refuses, tells_next, tells_again, tells_refused}
use borrow.Author.Rules.{rules}
use Rattle.sundr.proofs.check.sundr_memory_check.Goals as goal

pub returns-then-counts-ne16 : goal.returns-then-counts-ne16
returns-then-counts-ne16 c =
    let a = c.args in
    let other : (length a.counts.now ≡ 16) × (length a.again.now ≡ size) → ⊥ = λ e. let l = e.0 in omega arith in
    let t = room_refuses a.users a.user (length a.counts.now) (length a.again.now) a.file.now a.list.now a.marks.now c.no_room.result
    {counts = a.counts.now} {again = a.again.now} (c.no_room.ensures _ _ other) c.refusal_word.ensures in
    record { answer = t.0; counts = t.1.0; again = t.1.1 }

pub returns-then-again-ne-SIZE : goal.returns-then-again-ne-SIZE
returns-then-again-ne-SIZE c =
    let a = c.args in
    let other : (length a.counts.now ≡ 16) × (length a.again.now ≡ size) → ⊥ = λ e. let l = e.1 in omega arith in
    let t = room_refuses a.users a.user (length a.counts.now) (length a.again.now) a.file.now a.list.now a.marks.now c.no_room-then-again-ne-SIZE.result
    {counts = a.counts.now} {again = a.again.now} (c.no_room-then-again-ne-SIZE.ensures _ _ other)
    c.refusal_word-then-again-ne-SIZE.ensures in
    record { answer = t.0; counts = t.1.0; again = t.1.1 }

pub returns-in-Ok-Next : goal.returns-in-Ok-Next
returns-in-Ok-Next c =
    let a = c.args in
    let room : (length a.counts.now ≡ 16) × (length a.again.now ≡ size) = (omega arith, omega arith) in
    let t = tells_next a.users a.user (length a.counts.now) (length a.again.now) a.file.now a.list.now a.marks.now room c.check.result c.check.ensures
    a.counts.now a.again.now _ (c.in-Ok-Next.is ∙ ap Ok c.in-Ok-Next.field-0-is) refl c.copy_from_slice.ensures.after in
    record { answer = t.0; counts = t.1.0; again = t.1.1 }

pub returns-in-Ok-Again : goal.returns-in-Ok-Again
returns-in-Ok-Again c =
    let a = c.args in
    let room : (length a.counts.now ≡ 16) × (length a.again.now ≡ size) = (omega arith, omega arith) in
    let l : length c.in-Ok-Again.bytes ≡ size = search rules in
    let t = tells_again a.users a.user (length a.counts.now) (length a.again.now) a.file.now a.list.now a.marks.now room c.check.result c.check.ensures
    a.counts.now a.again.now _ (c.in-Ok-Again.is ∙ ap Ok c.in-Ok-Again.field-0-is) refl (c.copy.ensures.copied (omega (arith, l)) ∙ copied_over _ _ (omega (arith, l))) in
    record { answer = t.0; counts = t.1.0; again = t.1.1 }

pub returns-in-Err : goal.returns-in-Err
returns-in-Err c =
    let a = c.args in
    let room : (length a.counts.now ≡ 16) × (length a.again.now ≡ size) = (omega arith, omega arith) in
    let t = tells_refused a.users a.user (length a.counts.now) (length a.again.now) a.file.now a.list.now a.marks.now room c.check.result c.check.ensures
    {counts = a.counts.now} {again = a.again.now} _ c.in-Err.is c.refusal_word-in-Err.ensures in
    record { answer = t.0; counts = t.1.0; again = t.1.1 }
