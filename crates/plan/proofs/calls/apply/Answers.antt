use Rattle.std.proofs.Common.{[]}
use Rattle.plan.proofs.Overs.{over_drawn, over_measured}
use Rattle.plan.proofs.calls.apply.Goals as goal

pub returns-in-Draw-clause-over : goal.returns-in-Draw-clause-over
returns-in-Draw-clause-over c = λ rows over.
    over_drawn rows c.args.drawing.now c.draw.new.self over c.in-Draw.edge c.draw.result c.draw.ensures.value (c.draw.ensures.after []) c.draw.ensures.spare

pub returns-in_err-measure-in-Measure-clause-over : goal.returns-in_err-measure-in-Measure-clause-over
returns-in_err-measure-in-Measure-clause-over c = λ rows over.
    over_measured rows c.args.drawing.now c.measure.new.self over c.in-Measure.edge c.in-Measure.length (c.measure.ensures.after []) c.measure.ensures.spare

pub returns-in_ok-measure-in-Measure-clause-over : goal.returns-in_ok-measure-in-Measure-clause-over
returns-in_ok-measure-in-Measure-clause-over c = λ rows over.
    over_measured rows c.args.drawing.now c.measure.new.self over c.in-Measure.edge c.in-Measure.length (c.measure.ensures.after []) c.measure.ensures.spare
