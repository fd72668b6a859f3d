use Rattle.std.proofs.Common.{◌≡◌, ℕ, ◌+◌, List, length, take, sym, ap, ◌∙◌, subst₂, arith}
use Rattle.plan.specs.Plans.{Over, lender_of}
use Rattle.plan.specs.Studies.{Study, next, study_of}
use Rattle.plan.specs.declared.drawing.Drawing.{Drawing}
use Rattle.plan.specs.declared.row.EdgeRow.{EdgeRow}
use Rattle.search.specs.Histories.{after_calls, next_call}
use Rattle.history.specs.Replays.{Run, call_of, calls_of}
use Rattle.history.proofs.Runs.{after_more, run_more_ask, run_more_change}
use Rattle.history.proofs.playing.make_calls.Goals as goal
use Rattle.history.proofs.playing.make_calls.Goals.{in-Change, in-Ask}

pub loop-call-preserved : goal.loop-call-preserved
loop-call-preserved g c =
    let s : Study = study_of c.args.drawing.now c.args.sheet.now in
    let more = after_more g.R.TurnRule g.C.CostKind (length c.args.labels.now) (length c.args.queue.now) (length c.args.route.now) s c.args.calls.now c.loop-call.call-index c.call-item.result (omega arith) c.call-item.is in
    let G : Drawing → List ℕ → Type 0 = λ d sheet.
    (study_of d sheet ≡ after_calls s (calls_of g.R.TurnRule g.C.CostKind (length c.args.labels.now) (length c.args.queue.now) (length c.args.route.now) (take (c.loop-call.call-index + 1) c.args.calls.now)))
    × (lender_of d ≡ lender_of c.args.drawing.now)
    × ((all : List EdgeRow) → Over all c.args.drawing.now → Over all d)
    × Run g.R.TurnRule g.C.CostKind (length c.args.queue.now) s (take (c.loop-call.call-index + 1) c.args.calls.now) c.args.labels.now c.match-call.labels c.args.route.now c.match-call.route in
    elim c.match-call.branch [
      | in-Change w ↦ subst₂ G (sym w.drawing-is) (sym w.sheet-is) (
        w.make_change.ensures.after ∙ ap (λ t. next t w.in-Change.change) c.loop-call.invariant.0
            ∙ sym (more ∙ ap (λ x. next_call (after_calls s (calls_of g.R.TurnRule g.C.CostKind (length c.args.labels.now) (length c.args.queue.now) (length c.args.route.now) (take c.loop-call.call-index c.args.calls.now))) (call_of g.R.TurnRule g.C.CostKind (length c.args.labels.now) (length c.args.queue.now) (length c.args.route.now) x)) w.in-Change.is),
        w.make_change.ensures.lender ∙ c.loop-call.invariant.1,
        λ all over. w.make_change.ensures.rows all (c.loop-call.invariant.2 all over),
        subst₂ (λ labels route. Run g.R.TurnRule g.C.CostKind (length c.args.queue.now) s (take (c.loop-call.call-index + 1) c.args.calls.now) c.args.labels.now labels c.args.route.now route) (sym w.labels-is) (sym w.route-is)
            (run_more_change g.R.TurnRule g.C.CostKind (length c.args.queue.now) s c.args.calls.now c.loop-call.call-index c.call-item.result w.in-Change.change c.args.labels.now c.loop-call.labels c.args.route.now c.loop-call.route (omega arith) c.call-item.is w.in-Change.is c.loop-call.invariant.3),
      )
      | in-Ask w ↦ subst₂ G (sym w.drawing-is) (sym w.sheet-is) (
        c.loop-call.invariant.0
            ∙ sym (more ∙ ap (λ x. next_call (after_calls s (calls_of g.R.TurnRule g.C.CostKind (length c.args.labels.now) (length c.args.queue.now) (length c.args.route.now) (take c.loop-call.call-index c.args.calls.now))) (call_of g.R.TurnRule g.C.CostKind (length c.args.labels.now) (length c.args.queue.now) (length c.args.route.now) x)) w.in-Ask.is),
        c.loop-call.invariant.1,
        c.loop-call.invariant.2,
        subst₂ (λ labels route. Run g.R.TurnRule g.C.CostKind (length c.args.queue.now) s (take (c.loop-call.call-index + 1) c.args.calls.now) c.args.labels.now labels c.args.route.now route) (sym w.labels-is) (sym w.route-is)
            (run_more_ask g.R.TurnRule g.C.CostKind (length c.args.queue.now) (length c.loop-call.queue) (length c.args.labels.now) (length c.args.route.now) s (study_of c.loop-call.drawing c.loop-call.sheet) c.args.calls.now c.loop-call.call-index c.call-item.result w.in-Ask.first w.in-Ask.last w.in-Ask.rule w.in-Ask.cost
            c.args.labels.now c.loop-call.labels w.ask.new.labels c.args.route.now c.loop-call.route w.ask.new.route w.ask.result (omega arith) c.call-item.is w.in-Ask.is c.loop-call.auto.queue c.loop-call.invariant.0 c.loop-call.invariant.3 w.ask.ensures.answers),
      )
    ]
