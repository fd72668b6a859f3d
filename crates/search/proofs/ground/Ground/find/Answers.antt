use Rattle.std.proofs.Common.{length, refl, arith}
use Rattle.search.proofs.Founds.{all_labelled, outcome_found, traceable, unreached}
use Rattle.search.proofs.ground.Ground.find.Goals as goal

pub returns-then-reached-eq0 : goal.returns-then-reached-eq0
returns-then-reached-eq0 g c = record {
  outcome = (unreached g.R.TurnRule g.C.CostKind g.met.C.CostKind.measured g.met.C.CostKind.few c.args.self.now.question.now c.explore.new.labels c.explore.ensures.explored c.args.self.now.question.now.last c.index-labels-last.result (omega (arith, c.explore.auto.labels, c.requires.size, c.args.self.now.to)) c.index-labels-last.is c.if-reached-eq0.true, refl, refl);
  labelled = all_labelled g.R.TurnRule g.C.CostKind g.met.C.CostKind.measured g.met.C.CostKind.few c.args.self.now.question.now c.explore.new.labels c.explore.ensures.explored;
}

pub trace-charge-requires-clause-trail : goal.trace-charge-requires-clause-trail
trace-charge-requires-clause-trail g c = traceable g.R.TurnRule g.C.CostKind g.met.C.CostKind.measured g.met.C.CostKind.few c.args.self.now.question.now c.explore.new.labels c.explore.ensures.explored c.args.self.now.question.now.last c.index-labels-last.result (omega (arith, c.explore.auto.labels, c.requires.size, c.args.self.now.to)) c.index-labels-last.is c.if-reached-eq0.false (length c.args.route.now) c.requires.long

pub returns : goal.returns
returns g c = record {
  outcome = outcome_found g.R.TurnRule g.C.CostKind g.met.C.CostKind.measured g.met.C.CostKind.few c.args.self.now.question.now c.explore.new.labels c.explore.ensures.explored c.args.self.now.question.now.last c.index-labels-last.result (omega (arith, c.explore.auto.labels, c.requires.size, c.args.self.now.to)) c.index-labels-last.is c.if-reached-eq0.false c.args.route.now c.trace-charge.new.route c.trace-charge.result.0 c.trace-charge.result.1 c.trace-charge.ensures.traced;
  labelled = all_labelled g.R.TurnRule g.C.CostKind g.met.C.CostKind.measured g.met.C.CostKind.few c.args.self.now.question.now c.explore.new.labels c.explore.ensures.explored;
}
