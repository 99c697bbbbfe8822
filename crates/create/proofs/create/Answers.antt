-- The stages one after the other: each refusal is handed on as it is, and where all pass the structure is written.
use Rattle.refusal.proofs.Stage.{hands_on, goes_on_to, gives_result}
use Rattle.create.proofs.Stages.{in_stages, sized, holds_remembered}
use Rattle.create.proofs.create.Goals as goal

pub returns-in_err-lengths : goal.returns-in_err-lengths
returns-in_err-lengths c =
    let s = c.lengths in
    hands_on _ _ (in_stages _ _ _ _ _ _) s.result s.ensures c.in_err-lengths.was c.from_residual.ensures.1

pub returns-in_err-given : goal.returns-in_err-given
returns-in_err-given c =
    let s = c.lengths in
    hands_on _ _ (goes_on_to _ _ (in_stages _ _ _ _ _ _) s.result s.ensures c.in_ok-lengths.was) c.given.result c.given.ensures
    c.in_err-given.was c.from_residual-in_err-given.ensures.1

pub counts-requires : goal.counts-requires
counts-requires c =
    let s = c.lengths in
    let z = sized _ _ _ _ _ _ s.result s.ensures c.in_ok-lengths.was in
    record {
      users = z.0;
      counts_len = z.1.sixteen;
      memory_value = holds_remembered _ _ _ c.given.result c.given.ensures c.in_ok-given.was _ c.held.ensures;
    }

pub returns-in_err-counts : goal.returns-in_err-counts
returns-in_err-counts c =
    let s = c.lengths in
    hands_on _ _
    (goes_on_to _ _ (goes_on_to _ _ (in_stages _ _ _ _ _ _) s.result s.ensures c.in_ok-lengths.was) c.given.result c.given.ensures
    c.in_ok-given.was)
    c.counts.result (rw c.held.ensures at c.counts.ensures) c.in_err-counts.was c.from_residual-in_err-counts.ensures.1

pub write-requires : goal.write-requires
write-requires c =
    let s = c.lengths in
    let z = (sized _ _ _ _ _ _ s.result s.ensures c.in_ok-lengths.was).1 in
    record { handle_len = z.handle_long; counts_len = z.sixteen; out_len = z.answer_long }

pub returns : goal.returns
returns c =
    let s = c.lengths in
    gives_result _ _
    (goes_on_to _ _
    (goes_on_to _ _ (goes_on_to _ _ (in_stages _ _ _ _ _ _) s.result s.ensures c.in_ok-lengths.was) c.given.result c.given.ensures
    c.in_ok-given.was)
    c.counts.result (rw c.held.ensures at c.counts.ensures) c.in_ok-counts.was)
    c.write.ensures
