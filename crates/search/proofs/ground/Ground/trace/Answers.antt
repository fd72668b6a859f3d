use Rattle.std.proofs.Common.{◌≡◌, ℕ, ◌+◌, ◌-◌, ◌<◌, ◌≤◌, length, get_or, set, sym, refl, ap, subst, subst₂, arith}
use Rattle.std.proofs.lemmas.List.{length-set}
use Rattle.plan.specs.Plans.{no_row, plan_of}
use Rattle.search.specs.Grounds.{drawn_in, net_of}
use Rattle.search.specs.Labels.{label_in, plain}
use Rattle.search.proofs.Traces.{Tracing, charge_fits, long_fits, previous_drawn, tracing_again, tracing_done, tracing_start, trail_count, trail_plain}
use Rattle.search.proofs.ground.Ground.trace.Given.{Over}
use Rattle.search.proofs.ground.Ground.trace.Goals as goal
use Rattle.search.proofs.ground.Ground.trace.Goals.{After-charge-charge}

-- the label that is read is that of the edge
held : (g : Over) (c : After-charge-charge g) → c.index-labels-from.result ≡ get_or c.args.labels.now c.loop-place.at c.index-labels-from.result
held g c = rw c.from.ensures at c.index-labels-from.is

-- the edge that is read next is drawn
previous : (g : Over) (c : After-charge-charge g) → c.index-labels-from.result.previous < drawn_in c.args.self.now.question.now
previous g c =
    let q = c.args.self.now.question.now in
    previous_drawn g.R.TurnRule g.C.CostKind q c.args.labels.now q.last c.args.route.now c.loop-place.at (c.loop-place.place - 1) c.loop-place.route c.loop-place.charge c.loop-place.length c.loop-place.invariant.2 (omega arith) c.loop-place.invariant.0 c.index-labels-from.result (held g c)

pub overflow_step-place : goal.overflow_step-place
overflow_step-place g c =
    let q = c.args.self.now.question.now in
    omega (arith, trail_count g.R.TurnRule g.C.CostKind q c.args.labels.now q.last c.requires.trail.0 c.index-labels-last.result c.requires.trail.1 (omega (arith, c.requires.size, c.args.self.now.to)) c.index-labels-last.is, c.requires.trail.3)

pub loop-place-init : goal.loop-place-init
loop-place-init g c =
    let q = c.args.self.now.question.now in
    let n = trail_count g.R.TurnRule g.C.CostKind q c.args.labels.now q.last c.requires.trail.0 c.index-labels-last.result c.requires.trail.1 (omega (arith, c.requires.size, c.args.self.now.to)) c.index-labels-last.is in
    let long = ap (λ rows. (get_or rows q.last no_row).length) c.edges-edges.ensures.value in (
      (omega (arith, c.requires.size, c.args.self.now.to)),
      omega (arith, n, c.requires.trail.2),
      subst (Tracing (net_of g.R.TurnRule g.C.CostKind q) (label_in g.C.CostKind c.args.labels.now) q.last c.args.route.now q.last (c.index-labels-last.result.edges - 1) c.args.route.now 0) (sym long)
          (tracing_start (net_of g.R.TurnRule g.C.CostKind q) (label_in g.C.CostKind c.args.labels.now) q.last c.args.route.now c.requires.trail.0 (plain g.C.CostKind c.index-labels-last.result) (c.index-labels-last.result.edges - 1) c.requires.trail.1 c.requires.trail.2 c.requires.trail.3
          (trail_plain g.R.TurnRule g.C.CostKind q c.args.labels.now q.last c.requires.trail.0 c.index-labels-last.result c.requires.trail.1 (omega (arith, c.requires.size, c.args.self.now.to)) c.index-labels-last.is) refl),
    )

pub overflow_add-charge : goal.overflow_add-charge
overflow_add-charge g c =
    let q = c.args.self.now.question.now in
    let small : (e f : ℕ) → g.R.TurnRule.charge q.rule.now (plan_of q.drawing.now) e f ≤ 1000 = λ e f. omega (arith, g.met.R.TurnRule.bounded q.rule.now (plan_of q.drawing.now) e f c.edges-edges.ensures.sound, g.met.R.TurnRule.small) in
    omega (arith, rw (c.from-in-loop-place.ensures, c.from-in-loop-place-2.ensures) at c.charge-charge.ensures.value, charge_fits g.R.TurnRule g.C.CostKind q c.args.labels.now q.last c.args.route.now c.loop-place.at (c.loop-place.place - 1) c.loop-place.route c.loop-place.charge c.loop-place.length c.loop-place.invariant.2 (omega arith) c.loop-place.invariant.0 c.index-labels-from.result (held g (goal.at.overflow_add-charge g c).After-charge-charge) small)

pub bounds-edges-from : goal.bounds-edges-from
bounds-edges-from g c = omega (arith, previous g (goal.at.bounds-edges-from g c).After-charge-charge, ap length c.edges-edges.ensures.value)

pub overflow_add-length : goal.overflow_add-length
overflow_add-length g c =
    let q = c.args.self.now.question.now in
    let long = ap (λ rows. (get_or rows c.index-labels-from.result.previous no_row).length) c.edges-edges.ensures.value in
    rw c.from-in-loop-place-3.ensures (omega (arith, long, long_fits g.R.TurnRule g.C.CostKind q c.args.labels.now q.last c.args.route.now c.loop-place.at (c.loop-place.place - 1) c.loop-place.route c.loop-place.charge c.loop-place.length c.loop-place.invariant.2 (omega arith) c.loop-place.invariant.0 c.index-labels-from.result (held g (goal.at.overflow_add-length g c).After-charge-charge)))

pub loop-place-preserved : goal.loop-place-preserved
loop-place-preserved g c =
    let q = c.args.self.now.question.now in
    let long = ap (λ rows. (get_or rows c.index-labels-from.result.previous no_row).length) c.edges-edges.ensures.value in (
      omega (arith, previous g (goal.at.loop-place-preserved g c).After-charge-charge, c.requires.size),
      rw length-set (omega (arith, c.loop-place.invariant.1)),
      rw c.from-in-loop-place-3.ensures (subst₂ (λ k l. Tracing (net_of g.R.TurnRule g.C.CostKind q) (label_in g.C.CostKind c.args.labels.now) q.last c.args.route.now c.index-labels-from.result.previous (c.loop-place.place - 1 - 1) (set c.loop-place.route (c.loop-place.place - 1) c.loop-place.at) (c.loop-place.charge + k) (c.loop-place.length + l))
          (sym (rw (c.from-in-loop-place.ensures, c.from-in-loop-place-2.ensures) at c.charge-charge.ensures.value)) (sym long) (tracing_again g.R.TurnRule g.C.CostKind q c.args.labels.now q.last c.args.route.now c.loop-place.at (c.loop-place.place - 1) c.loop-place.route c.loop-place.charge c.loop-place.length c.loop-place.invariant.2 (omega arith) c.loop-place.invariant.0 c.index-labels-from.result (held g (goal.at.loop-place-preserved g c).After-charge-charge))),
    )

pub returns : goal.returns
returns g c =
    let q = c.args.self.now.question.now in
    record { traced = tracing_done (net_of g.R.TurnRule g.C.CostKind q) (label_in g.C.CostKind c.args.labels.now) q.last c.args.route.now c.loop-place.at (c.loop-place.place - 1) c.loop-place.route c.loop-place.charge c.loop-place.length c.loop-place.invariant.2 (omega arith) }
