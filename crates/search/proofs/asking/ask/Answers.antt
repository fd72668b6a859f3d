use Rattle.std.proofs.Common.{◌≡◌, ◌-◌, length, sym, refl, ap, arith}
use Rattle.plan.specs.Studies.{study_of}
use Rattle.search.specs.Grounds.{settings_of}
use Rattle.search.specs.Questions.{asked}
use Rattle.search.proofs.Agreeing.{agrees, always, searched}
use Rattle.search.proofs.asking.ask.Goals as goal

pub returns : goal.returns
returns g c =
    let σ = settings_of g.C.CostKind c.args.question.now in
    let s = study_of c.args.question.now.drawing.now c.args.question.now.sheet.now in
    let q = asked g.R.TurnRule g.C.CostKind c.args.question.now (length c.args.labels.now) (length c.args.queue.now) (length c.args.route.now) in
    let drawn : length c.edges-drawn.result.now - 0 ≡ length s.edges = omega (arith, ap length c.edges-drawn.ensures.value) in
    let a = searched g.C.CostKind σ s q c.args.labels.now c.find.new.labels c.args.route.now c.find.new.route c.find.result (sym c.in_ok-check.ensures.value) refl (rw drawn at c.find.auto.labels) c.find.ensures.outcome c.find.ensures.labelled in
    rw drawn (record { answers = a; always = always _ _ _ _ _ _ _ _ _ a; agrees = agrees _ _ _ _ _ _ _ _ _ a })
