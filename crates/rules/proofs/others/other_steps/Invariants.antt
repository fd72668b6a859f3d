use Rattle.std.proofs.Common.{◌≡◌, ◌≤◌}
use Rattle.plan.specs.Plans.{plan_of}
use Rattle.rules.specs.Ambiguity.{other}
use Rattle.rules.specs.Charges.{below}
use Rattle.rules.proofs.others.other_steps.Given as goal

abbrev pub invariant-loop-at : goal.invariant-loop-at
invariant-loop-at l = (l.count ≡ below (other (plan_of l.drawing) l.from l.class l.to) l.at) × (l.count ≤ l.at)
