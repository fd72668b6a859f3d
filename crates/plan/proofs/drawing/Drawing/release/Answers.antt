use Rattle.std.proofs.Common.{sym}
use Rattle.std.proofs.lemmas.List.{take-append-drop}
use Rattle.plan.specs.Plans.{plan_of, spare_of}
use Rattle.plan.proofs.drawing.Drawing.release.Goals as goal

pub returns : goal.returns
unfolding plan_of spare_of
returns c = record { after = sym (take-append-drop c.args.self.count c.args.self.rows.now) }
