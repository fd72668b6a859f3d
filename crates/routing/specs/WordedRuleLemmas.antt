-- The rule of a word charges no more than the largest of the three.
use Rattle.std.specs.Prelude.{ℕ, ◌≤◌}
use Rattle.std.proofs.Common.{arith}
use Rattle.plan.specs.Plans.{Plan, Sound}
use Rattle.rules.specs.Bounds.{ambiguity_bound, slots_bound, turns_bound}
use Rattle.routing.specs.Choices.{rule_charge}
use Rattle.routing.specs.declared.choice.RuleWord.{RuleWord}
use Rattle.routing.specs.declared.choice.RuleWord.TheVariants.{Slots, Ambiguity, Turns}

pub bound : (word : RuleWord) (p : Plan) (e f : ℕ) → Sound p → rule_charge word p e f ≤ 21
bound Slots p e f s = slots_bound p e f s
bound Ambiguity p e f s = let h = ambiguity_bound p e f s in omega (arith, h)
bound Turns p e f s = let h = turns_bound p e f in omega (arith, h)
