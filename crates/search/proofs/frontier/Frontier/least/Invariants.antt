use Rattle.std.proofs.Common.{◌<◌}
use Rattle.search.specs.Queues.{Least}
use Rattle.search.proofs.frontier.Frontier.least.Given as goal

abbrev pub invariant-loop-at : goal.invariant-loop-at
invariant-loop-at g l = (l.best < l.at) × Least g.C.CostKind l.self.labels.now l.self.queue.now l.at l.best
