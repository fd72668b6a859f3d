-- Sector limits: the angles that part the classes of turns.
--
-- Glossary
--   Limits                the three limits s, b and h as plain numbers
--   limits_of x           the limits that the value x of the type Sectors holds
--   limits_answer s b h   what making limits answers: the limits, or the place, from 1, of the first that is above 180 or below the one before
--   limits_made r         the answer r of making limits, with the limits as plain numbers
-- Assumes nothing.
use Rattle.std.specs.Prelude.{ℕ, cond, Ok, Err, Result, nat_lt}
use Rattle.turns.specs.declared.sectors.Sectors.{Sectors}
use Rattle.turns.specs.declared.fault.PlanFault.{PlanFault}
use Rattle.turns.specs.declared.fault.PlanFault.TheVariants.{BadLimits}

pub record Limits : Type 0 where
  pub s : ℕ
  pub b : ℕ
  pub h : ℕ

abbrev pub limits_of : Sectors → Limits
limits_of x = record { s = x.s; b = x.b; h = x.h }

abbrev pub limits_answer : ℕ → ℕ → ℕ → Result Limits PlanFault
limits_answer s b h =
    cond (nat_lt 180 s) (Err (BadLimits 1))
    (cond (nat_lt b s) (Err (BadLimits 2))
    (cond (nat_lt 180 b) (Err (BadLimits 2))
    (cond (nat_lt h b) (Err (BadLimits 3))
    (cond (nat_lt 180 h) (Err (BadLimits 3))
    (Ok (record { s = s; b = b; h = h }))))))

abbrev pub limits_made : Result Sectors PlanFault → Result Limits PlanFault
limits_made (Ok x) = Ok (limits_of x)
limits_made (Err f) = Err f
