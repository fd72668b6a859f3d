-- The rule that counts turns.
--
-- Glossary
--   turns_charge p e f   0 for a straight step from e to f, 1 for any other step, 0 where no step leads there
-- Assumes nothing.
use Rattle.std.specs.Prelude.{ℕ, cond}
use Rattle.plan.specs.Plans.{Plan}
use Rattle.rules.specs.Charges.{straight, at_steps}

abbrev pub turns_charge : Plan → ℕ → ℕ → ℕ
turns_charge p e f = at_steps p e f (cond (straight p e f) 0 1)
