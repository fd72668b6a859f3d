-- The kind of cost that has one kind's row before another's.
--
-- Glossary (K and L are the two kinds)
--   ranked_settings K L c       the settings of both parts of c
--   ranked_places K L           the places of K and those of L
--   ranked_row K L c            the row of the first part, and behind it that of the second
--   ranked_additions K L c      the larger of the additions of the two parts
--   ranked_amount K L s u d     what the charge u and the length d add to the first part, and behind it what they add to the second
-- Assumes nothing.
use Rattle.std.specs.Prelude.{ℕ, ◌+◌, max, ◌++◌}
use Rattle.cost.specs.Rows.{Row}
use Rattle.cost.specs.declared.kind.CostKind.{Ghosts as Kind}
use Rattle.cost.specs.declared.ranked.Ranked.{Ranked}

abbrev pub ranked_settings : {X Y : Type 0} (K : Kind X) (L : Kind Y) → Ranked X Y → K.Settings × L.Settings
ranked_settings K L c = (K.settings c.first, L.settings c.second)

abbrev pub ranked_places : {X Y : Type 0} (K : Kind X) (L : Kind Y) → ℕ
ranked_places K L = K.places + L.places

abbrev pub ranked_row : {X Y : Type 0} (K : Kind X) (L : Kind Y) → Ranked X Y → Row
ranked_row K L c = K.row c.first ++ L.row c.second

abbrev pub ranked_additions : {X Y : Type 0} (K : Kind X) (L : Kind Y) → Ranked X Y → ℕ
ranked_additions K L c = max (K.additions c.first) (L.additions c.second)

abbrev pub ranked_amount : {X Y : Type 0} (K : Kind X) (L : Kind Y) → K.Settings × L.Settings → ℕ → ℕ → Row
ranked_amount K L s u d = K.amount s.0 u d ++ L.amount s.1 u d
