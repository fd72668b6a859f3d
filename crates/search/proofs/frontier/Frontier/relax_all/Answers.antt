use Rattle.std.proofs.Common.{◌≡◌, ◌+◌, List, length, get_or, sym, ap, ◌∙◌, subst, arith}
use Rattle.plan.specs.Plans.{no_row, plan_of}
use Rattle.plan.specs.declared.row.EdgeRow.{EdgeRow}
use Rattle.search.specs.Grounds.{drawn_in}
use Rattle.search.specs.Stages.{Keeps, Stays, asked_of}
use Rattle.search.specs.declared.frontier.Frontier.{Frontier}
use Rattle.search.proofs.Steps.{kept_apart, stays_both}
use Rattle.search.proofs.frontier.Frontier.relax_all.Goals as goal
use Rattle.search.proofs.frontier.Frontier.relax_all.Goals.{then-row-end, else-row-end}

pub loop-to-preserved : goal.loop-to-preserved
loop-to-preserved g c =
    let G : Frontier g.row.R.Denot g.row.C.Denot → Type 0 = λ s. Stays c.args.self.now s × Keeps g.R.TurnRule g.C.CostKind c.args.self.now s c.args.from 0 (c.loop-to.to + 1) in
    let s : Frontier g.row.R.Denot g.row.C.Denot = c.loop-to.self in
    let stays : Stays c.args.self.now s = c.loop-to.invariant.0 in
    let rows : ◌≡◌ {A = List EdgeRow} c.edges-edges.result.now (plan_of (asked_of s).drawing.now).edges = c.edges-edges.ensures.value ∙ ap (λ q. (plan_of q.now.question.now.drawing.now).edges) (sym stays.ground) in
    let count : length c.edges-edges.result.now ≡ drawn_in (asked_of s) = ap length rows in
    elim c.if-row-end.branch [
      | then-row-end w ↦ subst G (sym w.self-is) (
        stays_both stays w.relax.ensures.stays,
        λ a n x t. w.relax.ensures.keeps a n x (c.loop-to.invariant.1 a n x t),
      )
      | else-row-end w ↦ subst G (sym w.self-is) (
        stays,
        λ a n x t.
            let r = kept_apart g.R.TurnRule g.C.CostKind g.met.C.CostKind.measured s c.args.from c.loop-to.to (omega (arith, c.requires.drawn, c.args.self.now.size, ap length c.edges-edges.ensures.value, count, s.size)) (omega (arith, count, s.size))
            (subst (λ rows. (get_or rows c.loop-to.to no_row).start ≡ (get_or rows c.args.from no_row).end → ⊥) rows (rw c.from.ensures at w.if-row-end.false)) a n x (c.loop-to.invariant.1 a n x t) in
            record { fine = r.0; relaxing = r.1 },
      )
    ]

pub returns-clause-keeps : goal.returns-clause-keeps
returns-clause-keeps g c =
    let s : Frontier g.row.R.Denot g.row.C.Denot = c.loop-to.self in
    let stays : Stays c.args.self.now s = c.loop-to.invariant.0 in
    let count : length c.edges-edges.result.now ≡ drawn_in (asked_of s) = ap length c.edges-edges.ensures.value ∙ ap (λ q. drawn_in q.now.question.now) (sym stays.ground) in
    let n : c.loop-to.to ≡ drawn_in (asked_of s) = omega (arith, count) in
    subst (Keeps g.R.TurnRule g.C.CostKind c.args.self.now s c.args.from 0) n c.loop-to.invariant.1
