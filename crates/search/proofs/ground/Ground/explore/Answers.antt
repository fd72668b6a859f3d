use Rattle.std.proofs.Common.{arith}
use Rattle.plan.proofs.Drawn.{sound_of}
use Rattle.search.proofs.Starts.{explored_shut, inv_begun, start_fine, working_start}
use Rattle.search.proofs.ground.Ground.explore.Goals as goal

pub overflow_cast-queue : goal.overflow_cast-queue
overflow_cast-queue g c = omega (arith, (sound_of c.args.self.now.question.now.drawing.now).few, c.args.self.now.from)

pub returns-then-self-first-ne0 : goal.returns-then-self-first-ne0
returns-then-self-first-ne0 g c =
    let q = c.args.self.now.question.now in
    record { explored = explored_shut g.R.TurnRule g.C.CostKind g.met.C.CostKind.measured q c.clear.new.labels c.args.queue.now (omega (arith, c.clear.auto.labels, c.requires.size)) c.requires.room (omega (arith, c.clear.auto.labels, c.requires.size, c.args.self.now.from)) c.clear.ensures.blank c.if-self-first-ne0.true }

pub invariant_of-search : goal.invariant_of-search
invariant_of-search g c =
    let q = c.args.self.now.question.now in
    let w = working_start g.R.TurnRule g.C.CostKind g.met.C.CostKind.measured q c.clear.new.labels c.args.queue.now (omega (arith, c.clear.auto.labels, c.requires.size)) c.requires.room (omega (arith, c.clear.auto.labels, c.requires.size, c.args.self.now.from)) c.clear.ensures.blank c.opening.result c.opening.ensures.value in
    record { size = w.size; filled = w.filled; waiting = w.waiting }

pub run-requires : goal.run-requires
run-requires g c =
    let q = c.args.self.now.question.now in
    record {
      begun = record {
        fine = start_fine g.C.CostKind q c.clear.new.labels c.clear.ensures.blank c.opening.result c.opening.ensures.fine;
        inv = inv_begun g.R.TurnRule g.C.CostKind g.met.C.CostKind.measured q c.clear.new.labels c.args.queue.now (omega (arith, c.clear.auto.labels, c.requires.size)) c.requires.room (omega (arith, c.clear.auto.labels, c.requires.size, c.args.self.now.from)) c.clear.ensures.blank c.opening.result c.opening.ensures.value c.if-self-first-ne0.false;
      };
    }
