-- The test of the length is the definition's, and after it the answer and the buffer are the server's, on the list that the bytes are. There is no loop.
use Prim.Native.Nat.{ℕ}
use mathlib.Core.Path.{refl, sym, ap, ◌∙◌}
use native.Mathlib.Omega.{arith}
use Rattle.refusal.specs.Word.{answer_word}
use Rattle.sundr.proofs.At.{listed_at_is, not_listed}
use Rattle.sundr.proofs.server_list.sundr_server_list_at.Goals as goal

pub returns-then-server-eq-SIZE : goal.returns-then-server-eq-SIZE
returns-then-server-eq-SIZE c =
    let a = c.args in
    let n = listed_at_is a.server.now a.out.now (omega arith) in
    let g = c.list.ensures in
    rw (n.0, n.1, sym c.read.ensures) (record {
      answer = c.answer_word.ensures ∙ ap (answer_word (λ (n : ℕ). n) (λ n. 0)) g.answers;
      buffer = g.leaves;
    })

pub returns : goal.returns
returns c =
    let a = c.args in
    let n = not_listed a.server.now a.out.now (omega arith) in
    rw (n.0, n.1) (record { answer = c.refusal_word.ensures; buffer = refl })
