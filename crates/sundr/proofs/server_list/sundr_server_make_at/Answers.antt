-- The test of the length is the definition's, and after it the answer is the server's: where it refuses, no byte is written, and where it
-- passes, the list's bytes are. There is no loop.
use mathlib.Core.Path.{refl, sym, ◌∙◌}
use native.Mathlib.Omega.{arith}
use Rattle.refusal.proofs.Words.{gives_word}
use Rattle.sundr.proofs.At.{makes, makes_not, not_sized, was_ok, was_err}
use Rattle.sundr.proofs.server_list.sundr_server_make_at.Goals.{then-is_ok, else-is_ok}
use Rattle.sundr.proofs.server_list.sundr_server_make_at.Goals as goal

pub returns-then-server-ne-SIZE : goal.returns-then-server-ne-SIZE
returns-then-server-ne-SIZE c =
    let a = c.args in
    rw (not_sized a.users a.server.now (omega arith)) (record { answer = c.refusal_word.ensures; buffer = refl })

pub returns : goal.returns
returns c =
    let a = c.args in
    elim c.if-is_ok.branch [
      | then-is_ok w ↦
          let g = makes a.users a.server.now c.make-made.ensures (omega arith) (was_ok _ (sym c.is_ok.ensures.value ∙ w.if-is_ok.true)).1 in
          record { answer = gives_word g c.answer_word.ensures; buffer = w.server-is ∙ w.write.ensures ∙ g.leaves }
      | else-is_ok w ↦
          let g = makes_not a.users a.server.now c.make-made.ensures (omega arith) (was_err _ (sym c.is_ok.ensures.value ∙ w.if-is_ok.false)).1 in
          record { answer = gives_word g c.answer_word.ensures; buffer = w.server-is ∙ g.leaves }
    ]
