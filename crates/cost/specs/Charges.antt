-- The kind of cost that adds up the charges.
--
-- Glossary
--   charge_additions c    the additions that c means
--   charge_row c          the one place of c: the sum of its charges, at most 1,000 for each addition
--   charge_amount s u d   what the charge u and the length d add: the charge
-- Assumes nothing.
use Rattle.std.specs.Prelude.{ℕ, [], ◌∷◌}
use Rattle.cost.specs.Rows.{Row}
use Rattle.cost.specs.Reading.{count, held}
use Rattle.cost.specs.declared.charge.Charges.{Charges}
use Rattle.cost.specs.declared.sum.Sum.{Sum}

abbrev pub charge_additions : Sum Charges → ℕ
charge_additions c = count c.additions

abbrev pub charge_row : Sum Charges → Row
charge_row c = held 1000 c.additions c.sum ∷ []

abbrev pub charge_amount : Unit {0} → ℕ → ℕ → Row
charge_amount s u d = u ∷ []
