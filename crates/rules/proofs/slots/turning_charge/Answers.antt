use Rattle.std.proofs.Common.{rules}
use Rattle.plan.specs.Plans.{plan_of}
use Rattle.rules.proofs.Turning.{at_three, past_three}
use Rattle.rules.proofs.slots.turning_charge.Goals as goal

pub returns-then-other_steps-eq0 : goal.returns-then-other_steps-eq0
returns-then-other_steps-eq0 c = search (rules, at_three (plan_of c.args.drawing.now) c.args.from c.args.to)

pub returns : goal.returns
returns c = search (rules, past_three (plan_of c.args.drawing.now) c.args.from c.args.to)
