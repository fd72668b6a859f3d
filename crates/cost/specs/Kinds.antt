-- What the three kinds of cost that add up one number are, in their own words.
--
-- Glossary
--   sums                                        the ghost members of the impl of CostKind for Sum, which every sum has
--   charge_kind, distance_kind, weighted_kind   the kinds that add up the charges, the lengths, and both by their weights
-- Assumes nothing.
use mir.Syntax.{Dict}
use Rattle.std.specs.Borrow.{RattleType}
use Rattle.std.specs.Prelude.{◌≡◌, ℕ, refl}
use Rattle.std.specs.declared.clone.Clone.{Ghosts as Cloned}
use Rattle.cost.specs.Charges.{charge_additions, charge_amount, charge_row}
use Rattle.cost.specs.Distances.{distance_additions, distance_amount, distance_row}
use Rattle.cost.specs.Weights.{Weights, weights, weighted_additions, weighted_amount, weighted_row}
use Rattle.cost.specs.Sums.{sum_by}
use Rattle.cost.specs.declared.kind.CostKind.{Ghosts as Kind}
use Rattle.cost.specs.declared.measure.Measure.{Ghosts as Measured}
use Rattle.cost.specs.declared.sum.Sum.{Sum}
use Rattle.cost.specs.declared.charge.Charges.{Charges}
use Rattle.cost.specs.declared.distance.Lengths.{Lengths}
use Rattle.cost.specs.declared.weighted.Weighing.{Weighing}
use Rattle.cost.specs.contracts.charge.ChargesMeasure.TheImpl.{ghosts as charges}
use Rattle.cost.specs.contracts.distance.LengthsMeasure.TheImpl.{ghosts as lengths}
use Rattle.cost.specs.contracts.sum.SumCostKind.TheImpl.{ghosts as sums}
use Rattle.cost.specs.contracts.weighted.WeighingMeasure.TheImpl.{ghosts as weighing}

-- the kind that the impl of Sum is, for any measure, is the one that the specs speak of
pub sums_are : (M : RattleType) (B : Measured M.Denot) (b : Dict) (C : Cloned M.Denot) (c : Dict) → sums M B b C c ≡ sum_by B
sums_are M B b C c = refl

abbrev pub charge_kind : Kind (Sum Charges)
charge_kind = sum_by charges

abbrev pub distance_kind : Kind (Sum Lengths)
distance_kind = sum_by lengths

abbrev pub weighted_kind : Kind (Sum Weighing)
weighted_kind = sum_by weighing

-- each has one place, and the settings, the row, the additions and the amount of its own definitions; charges and lengths have one setting, which says nothing
pub charge_is : (c : Sum Charges) (u d : ℕ) → (charge_kind.places ≡ 1) × (charge_kind.settings c ≡ tt) × (charge_kind.row c ≡ charge_row c) × (charge_kind.additions c ≡ charge_additions c) × (charge_kind.amount (charge_kind.settings c) u d ≡ charge_amount tt u d)
charge_is c u d = (refl, refl, refl, refl, refl)

pub distance_is : (c : Sum Lengths) (u d : ℕ) → (distance_kind.places ≡ 1) × (distance_kind.settings c ≡ tt) × (distance_kind.row c ≡ distance_row c) × (distance_kind.additions c ≡ distance_additions c) × (distance_kind.amount (distance_kind.settings c) u d ≡ distance_amount tt u d)
distance_is c u d = (refl, refl, refl, refl, refl)

pub weighted_is : (c : Sum Weighing) (s : Weights) (u d : ℕ) → (weighted_kind.places ≡ 1) × (weighted_kind.settings c ≡ weights c) × (weighted_kind.row c ≡ weighted_row c) × (weighted_kind.additions c ≡ weighted_additions c) × (weighted_kind.amount s u d ≡ weighted_amount s u d)
weighted_is c s u d = (refl, refl, refl, refl, refl)
