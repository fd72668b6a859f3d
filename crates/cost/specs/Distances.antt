-- The kind of cost that adds up the lengths.
--
-- Glossary
--   distance_additions c    the additions that c means
--   distance_row c          the one place of c: the sum of its lengths, at most 100,000 for each addition
--   distance_amount s u d   what the charge u and the length d add: the length
-- Assumes nothing.
use Rattle.std.specs.Prelude.{ℕ, [], ◌∷◌}
use Rattle.cost.specs.Rows.{Row}
use Rattle.cost.specs.Reading.{count, held}
use Rattle.cost.specs.declared.distance.Lengths.{Lengths}
use Rattle.cost.specs.declared.sum.Sum.{Sum}

abbrev pub distance_additions : Sum Lengths → ℕ
distance_additions c = count c.additions

abbrev pub distance_row : Sum Lengths → Row
distance_row c = held 100000 c.additions c.sum ∷ []

abbrev pub distance_amount : Unit {0} → ℕ → ℕ → Row
distance_amount s u d = d ∷ []
