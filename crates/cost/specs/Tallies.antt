-- The kind of cost that counts charges by their weight.
--
-- Glossary
--   heavy u, middle u, light u   1 where the charge u is 8 or more, 4 to 7, 1 to 3, and otherwise 0
--   tally_additions c            the additions that c means
--   tally_row c                  the three places of c: how many of its charges were heavy, middle and light, each at most one for each addition
--   tally_amount s u d           what the charge u and the length d add: one more at the place of the charge, and nothing at a charge of 0
-- Assumes nothing.
use Rattle.std.specs.Prelude.{ℕ, cond, [], ◌∷◌, nat_le, slice_index}
use Rattle.cost.specs.Rows.{Row}
use Rattle.cost.specs.Reading.{count, held}
use Rattle.cost.specs.declared.tally.Tally.{Tally}

abbrev pub heavy : ℕ → ℕ
heavy u = cond (nat_le 8 u) 1 0

abbrev pub middle : ℕ → ℕ
middle u = cond (nat_le 4 u) (cond (nat_le u 7) 1 0) 0

abbrev pub light : ℕ → ℕ
light u = cond (nat_le 1 u) (cond (nat_le u 3) 1 0) 0

abbrev pub tally_additions : Tally → ℕ
tally_additions c = count c.additions

abbrev pub tally_row : Tally → Row
tally_row c = held 1 c.additions (slice_index c.counts 0) ∷ held 1 c.additions (slice_index c.counts 1) ∷ held 1 c.additions (slice_index c.counts 2) ∷ []

abbrev pub tally_amount : Unit {0} → ℕ → ℕ → Row
tally_amount s u d = heavy u ∷ middle u ∷ light u ∷ []
