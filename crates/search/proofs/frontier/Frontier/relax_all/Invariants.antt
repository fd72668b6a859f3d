use Rattle.search.specs.Stages.{Keeps, Stays}
use Rattle.search.proofs.frontier.Frontier.relax_all.Given as goal

abbrev pub invariant-loop-to : goal.invariant-loop-to
invariant-loop-to g l = Stays l.initial.self l.self × Keeps g.R.TurnRule g.C.CostKind l.initial.self l.self l.from 0 l.to
