-- The kinds of cost that add up one number.
--
-- Glossary (B is what the sum adds up)
--   sum_settings B c     the settings that c means
--   sum_additions c      the additions that c means
--   sum_row B c          the one place of c: its sum, at most the most of B for each addition
--   sum_amount B s u d   what the charge u and the length d add at the settings s
--   sum_by B             the kind of cost that adds up B
-- Assumes nothing.
use Rattle.std.specs.Prelude.{ℕ, [], ◌∷◌}
use Rattle.cost.specs.Rows.{Row}
use Rattle.cost.specs.Reading.{count, held}
use Rattle.cost.specs.declared.kind.CostKind.{Ghosts as Kind}
use Rattle.cost.specs.declared.measure.Measure.{Ghosts as Measured}
use Rattle.cost.specs.declared.sum.Sum.{Sum}

abbrev pub sum_settings : {M : Type 0} (B : Measured M) → Sum M → B.Settings
sum_settings B c = B.settings c.measure

abbrev pub sum_additions : {M : Type 0} → Sum M → ℕ
sum_additions c = count c.additions

abbrev pub sum_row : {M : Type 0} (B : Measured M) → Sum M → Row
sum_row B c = held (B.most (B.settings c.measure)) c.additions c.sum ∷ []

abbrev pub sum_amount : {M : Type 0} (B : Measured M) → B.Settings → ℕ → ℕ → Row
sum_amount B s u d = B.amount s u d ∷ []

abbrev pub sum_by : {M : Type 0} → Measured M → Kind (Sum M)
sum_by B =
    record {
      Settings = B.Settings;
      settings = sum_settings B;
      places = 1;
      row = sum_row B;
      additions = sum_additions;
      amount = sum_amount B;
    }
