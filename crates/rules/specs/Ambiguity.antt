-- The rule that counts how many other steps sound the same when they are explained.
--
-- Glossary
--   other p e c f g          whether a step other than that to f leads from e to g, in the class c
--   ambiguity_charge p e f   the number of other steps out of e in the same class as the step to f; 0 where no step leads there
-- Assumes nothing.
use Rattle.std.specs.Prelude.{ℕ, Bool, not, ◌&&◌, length, ◌==◌}
use Rattle.plan.specs.Plans.{Plan, step_class}
use Rattle.turns.specs.declared.class.Class.{Class}
use Rattle.rules.specs.Charges.{below, in_class, at_steps}

abbrev pub other : Plan → ℕ → Class → ℕ → ℕ → Bool
other p e c f g = not (g == f) && in_class p e c g

abbrev pub ambiguity_charge : Plan → ℕ → ℕ → ℕ
ambiguity_charge p e f = at_steps p e f (below (other p e (step_class p e f) f) (length p.edges))
