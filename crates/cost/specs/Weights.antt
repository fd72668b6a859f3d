-- The kind of cost that adds up weighted lengths and charges.
--
-- Glossary
--   Weights                 the two weights: how much a unit of length and a unit of charge count
--   weights_read m          the weights that m means: those that it stores, and 100 where one is above that
--   weights c               the weights that c means, those of its measure
--   weighted_most s         the most that one addition adds at the weights s
--   weighted_additions c    the additions that c means
--   weighted_row c          the one place of c: its weighted sum, at most what its weights and additions allow
--   weighted_amount s u d   what the charge u and the length d add at the weights s
--   weight_fault wd wu      why these weights are refused: the distance weight wd is above 100, or else the charge weight wu is
-- Assumes nothing.
use Rattle.std.specs.Prelude.{ℕ, ◌+◌, ◌*◌, min, cond, [], ◌∷◌, Some, None, Option, nat_lt}
use Rattle.cost.specs.Rows.{Row}
use Rattle.cost.specs.Reading.{count, held}
use Rattle.cost.specs.declared.fault.CostFault.{CostFault}
use Rattle.cost.specs.declared.fault.CostFault.TheVariants.{Weight}
use Rattle.cost.specs.declared.sum.Sum.{Sum}
use Rattle.cost.specs.declared.weighted.Weighing.{Weighing}

pub record Weights : Type 0 where
  pub distance : ℕ
  pub charge : ℕ

abbrev pub weights_read : Weighing → Weights
weights_read m = record { distance = min m.distance 100; charge = min m.charge 100 }

abbrev pub weights : Sum Weighing → Weights
weights c = weights_read c.measure

abbrev pub weighted_most : Weights → ℕ
weighted_most s = s.distance * 100000 + s.charge * 1000

abbrev pub weighted_additions : Sum Weighing → ℕ
weighted_additions c = count c.additions

abbrev pub weighted_row : Sum Weighing → Row
weighted_row c = held (weighted_most (weights c)) c.additions c.sum ∷ []

abbrev pub weighted_amount : Weights → ℕ → ℕ → Row
weighted_amount s u d = (s.distance * d + s.charge * u) ∷ []

abbrev pub weight_fault : ℕ → ℕ → Option CostFault
weight_fault wd wu = cond (nat_lt 100 wd) (Some (Weight wd)) (cond (nat_lt 100 wu) (Some (Weight wu)) None)
