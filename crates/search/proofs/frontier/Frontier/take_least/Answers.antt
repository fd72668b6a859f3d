use Rattle.std.proofs.Common.{rules}
use Rattle.search.specs.Stages.{asked_of}
use Rattle.search.proofs.Steps.{working_of}
use Rattle.search.proofs.Takes.{taking, working_left}
use Rattle.search.proofs.frontier.Frontier.take_least.Goals as goal

pub invariant_of-self : goal.invariant_of-self
invariant_of-self g c =
    let s = c.args.self.now in
    let w = working_left g.R.TurnRule g.C.CostKind (asked_of s) s.labels.now s.queue.now s.len c.in_ok-at.at (working_of s) c.in_ok-at.ensures.value.0 in
    record { size = w.size; filled = w.filled; waiting = w.waiting }

pub returns-clause-takes : goal.returns-clause-takes
returns-clause-takes g c =
    let s = c.args.self.now in (
      search rules,
      λ a n i.
          let r = taking g.R.TurnRule g.C.CostKind (asked_of s) s.labels.now s.queue.now s.len c.in_ok-at.at (working_of s) c.in_ok-at.ensures.value.0 c.in_ok-at.ensures.value.1 a n i.inv in
          (r.0, record { fine = i.fine; relaxing = r.1 }),
    )

pub returns-clause-slots : goal.returns-clause-slots
returns-clause-slots g c = record {
  at = c.in_ok-at.at;
  there = c.in_ok-at.ensures.value.0;
  value = search rules;
  after = search rules;
  count = search rules;
  labels = search rules;
}
