-- The rounds are FIPS's, sixteen at a time (`sixteen_turns`). There is no loop.
use Rattle.std.proofs.Common.{ap, ◌∙◌, arith}
use Rattle.sha256.specs.Sha256.{added, compressed}
use Rattle.sha256.proofs.WordsTaken.{held, held_queues}
use Rattle.sha256.proofs.RoundsTaken.{start, sixteen_turns, sixteen_rounds}
use Rattle.sha256.proofs.block.compress.Goals as goal

pub returns : goal.returns
unfolding compressed
returns c =
    let b = c.args.block.now in
    let z = c.args.s in
    let w = held b in
    let q = held_queues b in
    let d1 = c.sixteen-s1.ensures in
    let e1 = sixteen_turns b w q z 0 (omega arith) (start b w q z c.load.ensures) d1.takes d1.leaves in
    let d2 = c.sixteen-s2.ensures in
    let e2 = sixteen_turns b w q z 16 (omega arith) e1 d2.takes d2.leaves in
    let d3 = c.sixteen-s3.ensures in
    let e3 = sixteen_turns b w q z 32 (omega arith) e2 d3.takes d3.leaves in
    c.add.ensures ∙ ap (added z) (sixteen_rounds b w q z 48 (omega arith) e3 c.sixteen.ensures.takes)
