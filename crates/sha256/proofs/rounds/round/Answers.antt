-- Each sum is FIPS's, with T1 added up in another order. There is no loop.
use Rattle.sha256.specs.Sha256.{round_of, Σ1, Ch}
use Rattle.sha256.proofs.Sums.{reordered}
use Rattle.sha256.proofs.rounds.round.Goals as goal

pub returns : goal.returns
unfolding round_of
returns c =
    let s = c.args in
    cc (reordered s.s.h (Σ1 s.s.e) (Ch s.s.e s.s.f s.s.g) s.k s.w)
