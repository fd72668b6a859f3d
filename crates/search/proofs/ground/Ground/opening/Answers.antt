use Rattle.std.proofs.Common.{rules}
use Rattle.walks.proofs.Order.{zeros-plus}
use Rattle.search.proofs.ground.Ground.opening.Goals as goal

pub returns-clause-value : goal.returns-clause-value
returns-clause-value g c = search (rules, zeros-plus, g.met.C.CostKind.measured)
