-- Tests that refuse and a file that is pending are the definition's; otherwise what the file holds is copied.
use Prim.Native.Nat.{◌≤◌}
use mathlib.Core.Bool.{◌&&◌}
use mathlib.Core.List.{◌++◌}
use mathlib.Core.Path.{◌≡◌, ap, ◌∙◌}
use native.Mathlib.Omega.{arith}
use lib.Dec.{eqb}
use lib.ListN.{length, drop}
use lib.Seq.{take-length}
use Rattle.std.proofs.Common.{rules, tests}
use Rattle.refusal.specs.declared.Refusal.TheVariants.{Pending}
use Rattle.refusal.proofs.Done.{done_refused, done_returned, done_accepted}
use Rattle.protocol.specs.Version.{size}
use Rattle.protocol.specs.MemoryFile.{file_size, back_into}
use Rattle.memory.proofs.Judged.{was_long, both_long}
use Rattle.memory.proofs.Calls.{held_short, back_refused, back_pending, back_held}
use Rattle.memory.proofs.back.Goals as goal

pub returns-in_err-judge : goal.returns-in_err-judge
unfolding back_into
returns-in_err-judge c =
    let a = c.args in
    let long : c.if-file-eq-FILE.long ≡ (eqb (length a.file.now) file_size && eqb (length a.out.now) size) = search (rules, tests) in
    let w =
    done_returned length (λ old. old ++ drop (length old) a.out.now) a.out.now _ c.from_residual.result
    (back_refused a.users a.user a.file.now (length a.out.now) c.if-file-eq-FILE.long c.formed.result long
    c.formed.ensures c.judge.result c.judge.ensures c.in_err-judge.was) c.from_residual.ensures.1 in
    record { answers = w.0; leaves = w.1 }

pub returns-then-pending : goal.returns-then-pending
unfolding back_into
returns-then-pending c =
    let a = c.args in
    let long : c.if-file-eq-FILE.long ≡ (eqb (length a.file.now) file_size && eqb (length a.out.now) size) = search (rules, tests) in
    let w =
    done_refused length (λ old. old ++ drop (length old) a.out.now) a.out.now Pending
    (back_pending a.users a.user a.file.now (length a.out.now) c.if-file-eq-FILE.long c.formed.result long
    c.formed.ensures c.judge.result c.judge.ensures c.in_ok-judge.was c.pending.result c.pending.ensures
    c.if-pending.true) in
    record { answers = w.0; leaves = w.1 }

pub returns : goal.returns
unfolding back_into
returns c =
    let a = c.args in
    let long : c.if-file-eq-FILE.long ≡ (eqb (length a.file.now) file_size && eqb (length a.out.now) size) = search (rules, tests) in
    let j = c.judge in
    let l = both_long _ _ file_size _ size long (was_long _ _ _ _ j.result j.ensures c.in_ok-judge.was) in
    let s = held_short c.args.file.now l.0 in
    let fits : length c.held.result.now ≤ length a.out.now = omega (arith, ap length c.held.ensures, s, l.1) in
    let n : c.copy-n.result ≡ length c.held.result.now = omega (arith, c.copy-n.ensures.count) in
    let w =
    done_accepted length (λ old. old ++ drop (length old) a.out.now) a.out.now
    (back_held a.users a.user a.file.now (length a.out.now) c.if-file-eq-FILE.long c.formed.result long
    c.formed.ensures c.judge.result c.judge.ensures c.in_ok-judge.was c.pending.result c.pending.ensures
    c.if-pending.false)
    (n ∙ ap length c.held.ensures)
    (c.copy-n.ensures.copied fits ∙ rw (take-length c.held.result.now, c.held.ensures)) in
    record { answers = w.0; leaves = w.1 }
