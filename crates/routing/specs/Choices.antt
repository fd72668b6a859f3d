-- The questions that a log can ask.
--
-- Glossary
--   rule_charge r             what the turn rule of the word r charges: slots, ambiguity or turns
--   kind_places k             how many places the costs of the kind of the word k have
--   kind_amount k charge long what a charge and a length add under that kind: distance adds the length; ranked the charge and, behind it, the length;
--                             weighted the length and six times the charge; tally one at the first place for a charge of 8 or more, at the second for 4 to 7,
--                             at the third for 1 to 3, and the length behind them
--   by_rule r places amount .. the question with the rule of the word r and a kind of cost of these places and amounts
--   question_of r k ..        the question with that rule and that kind
--   worded q labels queue route   the question q by its words, over lists of these lengths
-- Assumes nothing.
use Rattle.std.specs.Prelude.{ℕ, ◌+◌, ◌*◌, List, [], ◌∷◌}
use Rattle.cost.specs.Tallies.{heavy, light, middle}
use Rattle.plan.specs.Plans.{Plan}
use Rattle.rules.specs.Ambiguity.{ambiguity_charge}
use Rattle.rules.specs.Slots.{slots_charge}
use Rattle.rules.specs.Turns.{turns_charge}
use Rattle.search.specs.Questions.{Question}
use Rattle.search.specs.declared.question.Question.{Question as Asking}
use Rattle.routing.specs.declared.choice.KindWord.{KindWord}
use Rattle.routing.specs.declared.choice.KindWord.TheVariants.{Distance, Ranked, Weighted, Tally}
use Rattle.routing.specs.declared.choice.RuleWord.{RuleWord}
use Rattle.routing.specs.declared.choice.RuleWord.TheVariants.{Slots, Ambiguity, Turns}

abbrev pub rule_charge : RuleWord → Plan → ℕ → ℕ → ℕ
rule_charge Slots p e f = slots_charge p e f
rule_charge Ambiguity p e f = ambiguity_charge p e f
rule_charge Turns p e f = turns_charge p e f

abbrev pub kind_places : KindWord → ℕ
kind_places Distance = 1
kind_places Ranked = 2
kind_places Weighted = 1
kind_places Tally = 4

abbrev pub kind_amount : KindWord → ℕ → ℕ → List ℕ
kind_amount Distance charge long = long ∷ []
kind_amount Ranked charge long = charge ∷ long ∷ []
kind_amount Weighted charge long = (1 * long + 6 * charge) ∷ []
kind_amount Tally charge long = heavy charge ∷ middle charge ∷ light charge ∷ long ∷ []

abbrev pub by_rule : RuleWord → ℕ → (ℕ → ℕ → List ℕ) → ℕ → ℕ → ℕ → ℕ → ℕ → Question
by_rule rule places amount first last labels queue route =
    record { first = first; last = last; labels = labels; queue = queue; route = route; charge = rule_charge rule; places = places; amount = amount }

abbrev pub question_of : RuleWord → KindWord → ℕ → ℕ → ℕ → ℕ → ℕ → Question
question_of rule kind first last labels queue route = by_rule rule (kind_places kind) (kind_amount kind) first last labels queue route

abbrev pub worded : Asking RuleWord KindWord → ℕ → ℕ → ℕ → Question
worded q labels queue route = question_of q.rule.now q.cost.now q.first q.last labels queue route
