-- The rule that weighs a step by the slots of its instruction.
--
-- Glossary
--   way_on p e             whether some straight step leads out of e
--   slots_charge p e f     the charge of the step from e to f: 1 for a straight step; else 4 where one or two edges leave the junction at which e
--                          ends; else 6 where three leave it and no straight step leads out of e; else 5 plus the number that leave it.
--                          0 where no step leads from e to f
-- Assumes nothing.
use Rattle.std.specs.Prelude.{ℕ, ◌+◌, Bool, cond, not, ◌&&◌, length, ◌==◌, nat_le, nat_lt}
use Rattle.turns.specs.declared.class.Class.TheVariants.{Straight}
use Rattle.plan.specs.Plans.{Plan, degree, edge_at}
use Rattle.rules.specs.Charges.{below, in_class, straight, at_steps}

abbrev pub way_on : Plan → ℕ → Bool
way_on p e = nat_lt 0 (below (in_class p e Straight) (length p.edges))

abbrev pub slots_at : Bool → Bool → ℕ → ℕ
slots_at ahead way n =
    cond ahead 1
    (cond (nat_le n 2) 4
    (cond (n == 3 && not way) 6
    (5 + n)))

abbrev pub slots_charge : Plan → ℕ → ℕ → ℕ
slots_charge p e f = at_steps p e f (slots_at (straight p e f) (way_on p e) (degree p (edge_at p e).end))
