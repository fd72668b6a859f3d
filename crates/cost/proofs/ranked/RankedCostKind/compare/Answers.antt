use Rattle.std.proofs.Common.{rules}
use Rattle.cost.specs.RowLaws.{orders_append}
use Rattle.cost.proofs.ranked.RankedCostKind.compare.Goals as goal

pub returns : goal.returns
returns g c = search (rules, orders_append)
