use Rattle.std.proofs.Common.{◌≡◌, List, length, ap, ◌∙◌}
use Rattle.turns.specs.Sectors.{limits_of}
use Rattle.plan.specs.Studies.{Study, begun, study_of}
use Rattle.plan.specs.declared.drawing.Drawing.{Drawing}
use Rattle.search.specs.Histories.{Call as Event, after_calls}
use Rattle.history.specs.Replays.{calls_of}
use Rattle.history.proofs.Runs.{replayed}
use Rattle.history.proofs.playing.replay.Goals as goal

pub returns-clause-run : goal.returns-clause-run
returns-clause-run g c =
    let d : Drawing = c.make_calls.new.drawing in
    let h : List Event = calls_of g.R.TurnRule g.C.CostKind (length c.args.labels.now) (length c.args.queue.now) (length c.args.route.now) c.args.calls.now in
    let start : Study = begun (limits_of c.args.limits) (length c.args.rows.now) (length c.args.sheet.now) in
    let begins : study_of c.new-drawing.result c.fill.new.self ≡ start = λ i. record { limits = c.new-drawing.ensures.limits i; rows = c.new-drawing.ensures.rows i; edges = c.new-drawing.ensures.edges i; sheet = c.fill.ensures.after (λ y e. e) i } in
    let same : study_of d c.make_calls.new.sheet ≡ after_calls start h = c.make_calls.ensures.after ∙ ap (λ s. after_calls s h) begins in
    replayed g.R.TurnRule g.C.CostKind c.args.rule.now (g.C.CostKind.settings c.args.cost.now) c.args.first c.args.last c.args.labels.now c.make_calls.new.labels c.ask-answer.new.labels c.args.route.now c.make_calls.new.route c.ask-answer.new.route (length c.args.queue.now) (length c.make_calls.new.queue) (study_of d c.make_calls.new.sheet) (study_of c.new-drawing.result c.fill.new.self) start c.args.calls.now c.ask-answer.result
    c.make_calls.auto.labels c.make_calls.auto.route c.make_calls.auto.queue begins same c.make_calls.ensures.run c.ask-answer.ensures.answers c.ask-answer.ensures.agrees

pub returns-clause-answers : goal.returns-clause-answers
returns-clause-answers g c = (returns-clause-run g c).replayed
