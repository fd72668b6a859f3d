use Rattle.std.proofs.Common.{rules}
use Rattle.search.specs.Labels.{Blank}
use Rattle.search.proofs.Eaches.{each_called}
use Rattle.search.proofs.clear.clear.Goals as goal

pub returns : goal.returns
returns g c = record { blank = each_called _ (Blank g.C.CostKind (g.C.CostKind.settings c.args.cost.now)) _ _ (λ x after r. search rules) _ c.fill_with.ensures.ran.1 }
