-- An empty part is not there; any other is told by its hash.
use Rattle.std.proofs.Common.{rules}
use Rattle.sha256.proofs.Laws.{is_hash_means}
use Rattle.cache.specs.Choose as choose
use Rattle.cache.proofs.fits.Goals as goal

pub returns-then-there : goal.returns-then-there
unfolding choose.fits
returns-then-there c =
    let h = is_hash_means c.args.part.now c.args.wanted.now c.requires in search rules

pub returns-else-there : goal.returns-else-there
unfolding choose.fits
returns-else-there c = search rules
