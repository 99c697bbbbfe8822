-- Each of the sixteen is what the call reads at its place.
use Rattle.std.proofs.Common.{rules}
use Rattle.protocol.specs.Version.{count}
use Rattle.version.proofs.Filled.{from_fn_values}
use Rattle.version.proofs.counts.Goals as goal

pub returns : goal.returns
returns c =
    from_fn_values _ (count c.args.x.now) _ (λ k y q h. search rules) _ 16 c.from_fn.ensures.items
