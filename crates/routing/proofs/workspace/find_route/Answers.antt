use Rattle.std.proofs.Common.{length, refl, subst}
use Rattle.cost.specs.Kinds.{weighted_kind}
use Rattle.cost.specs.Weights.{Weights, weighted_amount}
use Rattle.plan.specs.Studies.{study_of}
use Rattle.routing.specs.Choices.{by_rule}
use Rattle.routing.specs.Lists.{Leaves}
use Rattle.routing.specs.declared.choice.KindWord.TheVariants.{Distance, Ranked, Weighted, Tally}
use Rattle.routing.proofs.Wording.{worked_kind}
use Rattle.routing.proofs.workspace.find_route.Goals as goal

pub returns-in-Distance-clause-labels : goal.returns-in-Distance-clause-labels
returns-in-Distance-clause-labels c = worked_kind c.args.question.now _ _ _ c.args.work.now _ Distance c.in-Distance.is (c.tell.ensures.labels, refl, refl, refl)

pub returns-in-Ranked-clause-labels : goal.returns-in-Ranked-clause-labels
returns-in-Ranked-clause-labels c = worked_kind c.args.question.now _ _ _ c.args.work.now _ Ranked c.in-Ranked.is (c.tell-in-Ranked.ensures.labels, refl, refl, refl)

pub returns-in-Tally-clause-labels : goal.returns-in-Tally-clause-labels
returns-in-Tally-clause-labels c = worked_kind c.args.question.now _ _ _ c.args.work.now _ Tally c.in-Tally.is (c.tell-in-Tally.ensures.labels, refl, refl, refl)

pub returns-in-Ok-clause-labels : goal.returns-in-Ok-clause-labels
returns-in-Ok-clause-labels c =
    let q = c.args.question.now in
    worked_kind q _ _ _ c.args.work.now _ Weighted c.in-Weighted.is (
      subst (λ (σ : Weights). Leaves weighted_kind σ (study_of q.drawing.now q.sheet.now) (by_rule q.rule.now 1 (weighted_amount σ) q.first q.last (length c.args.work.now.weighted.now) (length c.args.queue.now) (length c.args.route.now)) c.args.work.now.weighted.now c.tell-in-Weighted.new.labels)
          c.in-Ok.ensures.same c.tell-in-Weighted.ensures.labels,
      refl,
      refl,
      refl,
    )
