-- What a question is asked over, as a network of edges and steps.
--
-- Glossary
--   Asking                 a question as it is brought: a struct with the drawing, the sheet, the rule, the cost and the two edges
--   Rule                   what a turn rule means by its charges
--   network p sheet charge places amount   the network of the plan p: its edges with their lengths and steps, open where the sheet's byte is 0, with these
--                          charges for steps and these amounts for a charge and a length
--   net T K p sheet rule s the network of the plan p and the sheet for a rule and for a kind of cost with the settings s
--   drawn_in q             how many edges are drawn where the question q is asked
--   net_of T K q           the network that the question q is asked over
--   settings_of K q        the settings of the cost that the question q names
-- Assumes nothing.
use Rattle.std.specs.Prelude.{ℕ, not, List, length}
use Rattle.cost.specs.declared.kind.CostKind.{Ghosts as Kind}
use Rattle.rules.specs.declared.rule.TurnRule.{Ghosts as Rule}
use Rattle.plan.specs.Plans.{Plan, plan_of, edge_at, steps}
use Rattle.plan.specs.Studies.{shut}
use Rattle.walks.specs.Networks.{Network}
use Rattle.search.specs.declared.question.Question.{Question as Asking}

abbrev pub network : Plan → List ℕ → (ℕ → ℕ → ℕ) → ℕ → (ℕ → ℕ → List ℕ) → Network
network p sheet charge places amount =
    record {
      edges = length p.edges;
      unshut = λ e. not (shut sheet e);
      joined = steps p;
      long = λ e. (edge_at p e).length;
      places = places;
      charge = charge;
      amount = amount;
    }

abbrev pub net : {R C : Type 0} → Rule R → (K : Kind C) → Plan → List ℕ → R → K.Settings → Network
net T K p sheet rule s = network p sheet (T.charge rule p) K.places (K.amount s)

abbrev pub drawn_in : {R C : Type 0} → Asking R C → ℕ
drawn_in q = length (plan_of q.drawing.now).edges

abbrev pub settings_of : {R C : Type 0} → (K : Kind C) → Asking R C → K.Settings
settings_of K q = K.settings q.cost.now

abbrev pub net_of : {R C : Type 0} → Rule R → Kind C → Asking R C → Network
net_of T K q = net T K (plan_of q.drawing.now) q.sheet.now q.rule.now (settings_of K q)
