use Rattle.std.proofs.Common.{ℕ, ◌+◌, ◌<◌, Bool, MatchBool, length, get_or, sym, subst, arith}
use Rattle.std.proofs.lemmas.List.{get_or_default}
use Rattle.walks.specs.Labels.{KeyLess, KeyAtMost}
use Rattle.search.specs.Labels.{plain}
use Rattle.search.specs.Queues.{Least, edge_in}
use Rattle.search.specs.declared.label.Label.{Label}
use Rattle.search.proofs.Marks.{least_keeps, least_takes}
use Rattle.search.proofs.frontier.Frontier.least.Goals as goal
use Rattle.search.proofs.frontier.Frontier.least.Goals.{then-is_nearer, else-is_nearer}

pub loop-at-preserved : goal.loop-at-preserved
loop-at-preserved g c =
    let s = c.args.self.now in
    let x : Label g.row.C.Denot = get_or s.labels.now (edge_in s.queue.now c.loop-at.at) c.index-self-from.result in
    let y : Label g.row.C.Denot = get_or s.labels.now (edge_in s.queue.now c.loop-at.best) c.index-self-from-in-loop-at.result in
    let at : edge_in s.queue.now c.loop-at.at < length s.labels.now = omega (arith, s.filled.drawn c.loop-at.at (omega arith), s.size) in
    let best : edge_in s.queue.now c.loop-at.best < length s.labels.now = omega (arith, s.filled.drawn c.loop-at.best (omega (arith, c.loop-at.invariant.0)), s.size) in
    let W : Bool → Type 0 = λ b. MatchBool b (KeyLess (plain g.C.CostKind x) (plain g.C.CostKind y)) (KeyAtMost (plain g.C.CostKind y) (plain g.C.CostKind x)) in
    let G : ℕ → Type 0 = λ b. (b < c.loop-at.at + 1) × Least g.C.CostKind s.labels.now s.queue.now (c.loop-at.at + 1) b in
    elim c.if-is_nearer.branch [
      | then-is_nearer w ↦ subst G (sym w.best-is) (omega arith, least_takes g.C.CostKind s.labels.now s.queue.now c.loop-at.at c.loop-at.best x y at best (get_or_default _ _ _ _ at) (get_or_default _ _ _ _ best) c.loop-at.invariant.1 (subst W w.if-is_nearer.true (rw (c.from.ensures, c.from-in-loop-at.ensures) at c.is_nearer.ensures.cases)))
      | else-is_nearer w ↦ subst G (sym w.best-is) (omega (arith, c.loop-at.invariant.0), least_keeps g.C.CostKind s.labels.now s.queue.now c.loop-at.at c.loop-at.best x y at best (get_or_default _ _ _ _ at) (get_or_default _ _ _ _ best) c.loop-at.invariant.1 (subst W w.if-is_nearer.false (rw (c.from.ensures, c.from-in-loop-at.ensures) at c.is_nearer.ensures.cases)))
    ]
