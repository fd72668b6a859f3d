use Rattle.std.proofs.Common.{ℕ}
use Rattle.search.specs.Stages.{Searching, Stays, asked_of}
use Rattle.search.proofs.Starts.{unsettled}
use Rattle.search.proofs.frontier.Frontier.run.Given as goal

abbrev pub invariant-loop-edge : goal.invariant-loop-edge
invariant-loop-edge g l = Stays l.initial.self l.self × ((n : ℕ) × Searching g.R.TurnRule g.C.CostKind l.self (asked_of l.initial.self).first n)

abbrev pub decreases-loop-edge : goal.decreases-loop-edge
decreases-loop-edge g l = unsettled g.C.CostKind l.self
