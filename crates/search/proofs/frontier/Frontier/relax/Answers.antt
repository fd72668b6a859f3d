use Rattle.search.proofs.Steps.{kept_better, kept_new, kept_none, kept_old, room_read, working_read}
use Rattle.search.proofs.frontier.Frontier.relax.Goals as goal

pub returns-in_default-clause-keeps : goal.returns-in_default-clause-keeps
returns-in_default-clause-keeps g c = λ a n x t.
    let s = c.args.self.now in
    let r = kept_none g.R.TurnRule g.C.CostKind g.met.C.CostKind.measured s c.args.from c.args.to c.requires.from c.requires.to c.index-self-from.result (rw c.from.ensures at c.in_default.ensures.cases) a n x t in
    record { fine = r.0; relaxing = r.1 }

pub bounds-self-len : goal.bounds-self-len
bounds-self-len g c =
    let s = c.args.self.now in
    room_read g.R.TurnRule g.C.CostKind g.met.C.CostKind.measured s c.args.from c.args.to c.requires.from c.requires.to c.index-self-from.result c.index-self-place.result c.in-Some.new c.in-Some.ensures.some (rw c.from-place.ensures at c.if-old-eq0.true)

pub invariant_of-self-then-old-eq0 : goal.invariant_of-self-then-old-eq0
invariant_of-self-then-old-eq0 g c =
    let s = c.args.self.now in
    let w = working_read g.R.TurnRule g.C.CostKind g.met.C.CostKind.measured s c.args.from c.args.to c.requires.from c.requires.to c.index-self-from.result c.index-self-place.result c.in-Some.new c.in-Some.ensures.some (rw c.from-place.ensures at c.if-old-eq0.true) in
    record { size = rw c.from-place.ensures w.size; filled = w.filled; waiting = rw c.from-place.ensures w.waiting }

pub returns-then-old-eq0-clause-keeps : goal.returns-then-old-eq0-clause-keeps
returns-then-old-eq0-clause-keeps g c = λ a n x t.
    let s = c.args.self.now in
    let r = kept_new g.R.TurnRule g.C.CostKind g.met.C.CostKind.measured s c.args.from c.args.to c.requires.from c.requires.to c.index-self-from.result c.index-self-place.result c.in-Some.new c.in-Some.ensures.some (rw c.from.ensures at c.in-Some.ensures.cases) (rw c.from-place.ensures at c.if-old-eq0.true) a n x t in
    record { fine = rw c.from-place.ensures r.0; relaxing = rw c.from-place.ensures r.1 }

pub returns-then-is_before-clause-keeps : goal.returns-then-is_before-clause-keeps
returns-then-is_before-clause-keeps g c = λ a n x t.
    let s = c.args.self.now in
    let r = kept_better g.R.TurnRule g.C.CostKind g.met.C.CostKind.measured s c.args.from c.args.to c.requires.from c.requires.to c.index-self-from.result c.index-self-place.result c.in-Some.new c.in-Some.ensures.some (rw c.from.ensures at c.in-Some.ensures.cases) (rw c.from-place.ensures at c.if-old-eq0.false) (rw c.from-place.ensures at c.if-is_before.ensures.cases) a n x t in
    record { fine = rw c.from-place.ensures r.0; relaxing = rw c.from-place.ensures r.1 }

pub returns-else-is_before-clause-keeps : goal.returns-else-is_before-clause-keeps
returns-else-is_before-clause-keeps g c = λ a n x t.
    let s = c.args.self.now in
    let r = kept_old g.R.TurnRule g.C.CostKind g.met.C.CostKind.measured s c.args.from c.args.to c.requires.from c.requires.to c.index-self-from.result c.index-self-place.result c.in-Some.new c.in-Some.ensures.some (rw c.from.ensures at c.in-Some.ensures.cases) (rw c.from-place.ensures at c.if-old-eq0.false) (rw c.from-place.ensures at c.if-is_before.ensures.cases) a n x t in
    record { fine = r.0; relaxing = r.1 }
