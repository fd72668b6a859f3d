use Rattle.std.proofs.Common.{◌-◌, ◌<◌, ◌≤◌, length}
use Rattle.search.specs.Grounds.{net_of}
use Rattle.search.specs.Labels.{label_in}
use Rattle.search.proofs.Traces.{Tracing}
use Rattle.search.proofs.ground.Ground.trace.Given as goal

abbrev pub invariant-loop-place : goal.invariant-loop-place
invariant-loop-place g l =
    (l.at < length l.labels) × (l.place ≤ length l.route)
    × Tracing (net_of g.R.TurnRule g.C.CostKind l.self.question.now) (label_in g.C.CostKind l.labels) l.self.question.now.last l.initial.route l.at (l.place - 1) l.route l.charge l.length
