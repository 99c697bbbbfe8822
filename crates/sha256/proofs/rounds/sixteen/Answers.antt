-- Sixteen turns, each one more by the law `turned`. There is no loop.
use Rattle.std.proofs.Common.{sym, refl, add-zero}
use Rattle.sha256.proofs.RoundsTaken.{turned, unturned}
use Rattle.sha256.proofs.rounds.sixteen.Goals as goal

pub returns : goal.returns
returns g c =
    let z = c.args.s in
    let w = c.args.w.now.words in
    let t = g.row.FROM in
    let e1 = turned w z t 0 (sym (add-zero t)) (unturned w z t) c.turn-s1.ensures.takes c.turn-s1.ensures.leaves in
    let e2 = turned w z t 1 refl e1 c.turn-s2.ensures.takes c.turn-s2.ensures.leaves in
    let e3 = turned w z t 2 refl e2 c.turn-s3.ensures.takes c.turn-s3.ensures.leaves in
    let e4 = turned w z t 3 refl e3 c.turn-s4.ensures.takes c.turn-s4.ensures.leaves in
    let e5 = turned w z t 4 refl e4 c.turn-s5.ensures.takes c.turn-s5.ensures.leaves in
    let e6 = turned w z t 5 refl e5 c.turn-s6.ensures.takes c.turn-s6.ensures.leaves in
    let e7 = turned w z t 6 refl e6 c.turn-s7.ensures.takes c.turn-s7.ensures.leaves in
    let e8 = turned w z t 7 refl e7 c.turn-s8.ensures.takes c.turn-s8.ensures.leaves in
    let e9 = turned w z t 8 refl e8 c.turn-s9.ensures.takes c.turn-s9.ensures.leaves in
    let e10 = turned w z t 9 refl e9 c.turn-s10.ensures.takes c.turn-s10.ensures.leaves in
    let e11 = turned w z t 10 refl e10 c.turn-s11.ensures.takes c.turn-s11.ensures.leaves in
    let e12 = turned w z t 11 refl e11 c.turn-s12.ensures.takes c.turn-s12.ensures.leaves in
    let e13 = turned w z t 12 refl e12 c.turn-s13.ensures.takes c.turn-s13.ensures.leaves in
    let e14 = turned w z t 13 refl e13 c.turn-s14.ensures.takes c.turn-s14.ensures.leaves in
    let e15 = turned w z t 14 refl e14 c.turn-s15.ensures.takes c.turn-s15.ensures.leaves in
    let e16 = turned w z t 15 refl e15 c.turn.ensures.takes c.turn.ensures.leaves in
    record { takes = e16.0; leaves = e16.1 }
