use Rattle.std.proofs.Common.{◌+◌, sym, subst, arith}
use Rattle.search.specs.Stages.{Explored, asked_of}
use Rattle.search.proofs.Starts.{done, fewer_left}
use Rattle.search.proofs.Steps.{stays_both}
use Rattle.search.proofs.Takes.{settled_more}
use Rattle.search.proofs.frontier.Frontier.run.Goals as goal

pub loop-edge-smaller : goal.loop-edge-smaller
loop-edge-smaller g c =
    let i = c.loop-edge.invariant.1 in
    fewer_left g.R.TurnRule g.C.CostKind c.loop-edge.self c.relax_all.new.self (asked_of c.args.self.now).first i.0 (stays_both c.in-Some.ensures.stays c.relax_all.ensures.stays) i.1
    (settled_more g.R.TurnRule g.C.CostKind c.loop-edge.self c.take_least.new.self c.relax_all.new.self c.in-Some.edge c.in-Some.ensures.takes.1 c.relax_all.ensures.keeps (asked_of c.args.self.now).first i.0 i.1)

pub loop-edge-preserved : goal.loop-edge-preserved
loop-edge-preserved g c =
    let i = c.loop-edge.invariant.1 in (
      stays_both c.loop-edge.invariant.0 (stays_both c.in-Some.ensures.stays c.relax_all.ensures.stays),
      (i.0 + 1, settled_more g.R.TurnRule g.C.CostKind c.loop-edge.self c.take_least.new.self c.relax_all.new.self c.in-Some.edge c.in-Some.ensures.takes.1 c.relax_all.ensures.keeps (asked_of c.args.self.now).first i.0 i.1),
    )

pub returns-clause-explored : goal.returns-clause-explored
returns-clause-explored g c =
    let i = c.loop-edge.invariant.1 in
    let still = c.in_default.ensures.takes in
    subst (λ s. Explored g.R.TurnRule g.C.CostKind (asked_of c.args.self.now) s.labels.now) (sym still.1) (done g.R.TurnRule g.C.CostKind c.args.self.now c.loop-edge.self i.0 c.loop-edge.invariant.0 i.1 (omega (arith, still.0)))
