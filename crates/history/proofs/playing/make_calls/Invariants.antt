use Rattle.std.proofs.Common.{◌≡◌, List, length, take}
use Rattle.plan.specs.Plans.{Over, lender_of}
use Rattle.plan.specs.Studies.{study_of}
use Rattle.plan.specs.declared.row.EdgeRow.{EdgeRow}
use Rattle.search.specs.Histories.{after_calls}
use Rattle.history.specs.Replays.{Run, calls_of}
use Rattle.history.proofs.playing.make_calls.Given as goal

abbrev pub invariant-loop-call : goal.invariant-loop-call
invariant-loop-call g l =
    (study_of l.drawing l.sheet ≡ after_calls (study_of l.initial.drawing l.initial.sheet) (calls_of g.R.TurnRule g.C.CostKind (length l.initial.labels) (length l.initial.queue) (length l.initial.route) (take l.call-index l.calls)))
    × (lender_of l.drawing ≡ lender_of l.initial.drawing)
    × ((all : List EdgeRow) → Over all l.initial.drawing → Over all l.drawing)
    × Run g.R.TurnRule g.C.CostKind (length l.initial.queue) (study_of l.initial.drawing l.initial.sheet) (take l.call-index l.calls) l.initial.labels l.labels l.initial.route l.route
