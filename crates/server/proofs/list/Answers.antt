-- The length of the held records fixes their number, so the test of the buffer's length is the definition's, and the bytes are written
-- only where it passes. There is no loop.
use mathlib.Core.Path.{sym}
use native.Mathlib.Omega.{arith}
use Rattle.server.proofs.Slots.{no_room, room}
use Rattle.server.proofs.list.Goals as goal

pub returns-then-out-length : goal.returns-then-out-length
returns-then-out-length c =
    let a = c.args in
    let r = no_room a.server a.out.now (omega (arith, c.length-length.ensures)) in
    record { answers = sym r.0; leaves = rw r.1 }

pub returns : goal.returns
returns c =
    let a = c.args in
    let r = room a.server a.out.now (omega (arith, c.length-length.ensures)) in
    record { answers = rw (c.length-length.ensures, r.0); leaves = rw r.1 c.write.ensures }
