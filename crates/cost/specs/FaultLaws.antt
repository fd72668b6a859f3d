-- How faults compare.
--
-- Glossary
--   compared   what `==` of faults answers
-- Assumes nothing.
use Rattle.std.specs.Prelude.{◌≡◌, refl}
use Rattle.cost.specs.Faults.{same_fault}
use Rattle.cost.specs.declared.fault.CostFault.{CostFault}
use Rattle.cost.specs.declared.fault.CostFault.TheVariants.{Weight}
use Rattle.cost.specs.contracts.fault.CostFaultPartialEq.TheImpl.{ghosts as compared}

-- `==` answers whether two faults are the same
pub compared_is : (f g : CostFault) → compared.eq f g ≡ same_fault f g
compared_is (Weight v) (Weight w) = refl
