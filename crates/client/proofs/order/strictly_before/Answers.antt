use Rattle.version.proofs.Match.{is_before_by}
use Rattle.client.proofs.order.strictly_before.Goals as goal

pub returns : goal.returns
returns c = is_before_by _ _ c.compare.result c.compare.ensures c.eq.ensures
