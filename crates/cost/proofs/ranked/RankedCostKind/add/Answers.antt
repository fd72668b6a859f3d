use Rattle.std.proofs.Common.{rules}
use Rattle.cost.specs.RowLaws.{sums_append}
use Rattle.cost.proofs.ranked.RankedCostKind.add.Goals as goal

pub returns-clause-sum : goal.returns-clause-sum
returns-clause-sum g c =
    search (rules, sums_append g.A.CostKind.places, g.met.A.CostKind.even, g.met.A.CostKind.measured)
