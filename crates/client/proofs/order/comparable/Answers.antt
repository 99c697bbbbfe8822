use Rattle.version.proofs.Match.{is_ordered_by}
use Rattle.client.proofs.order.comparable.Goals as goal

pub returns : goal.returns
returns c = is_ordered_by _ _ c.compare.result c.compare.ensures c.ne.ensures
