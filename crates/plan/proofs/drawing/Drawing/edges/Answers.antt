use Rattle.std.proofs.Common.{rules}
use Rattle.plan.specs.Plans.{plan_of}
use Rattle.plan.proofs.Drawn.{sound_of}
use Rattle.plan.proofs.drawing.Drawing.edges.Goals as goal

pub returns : goal.returns
unfolding plan_of
returns c = record { value = search rules; sound = sound_of c.args.self.now }
