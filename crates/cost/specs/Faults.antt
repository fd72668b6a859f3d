-- What the making of a cost refuses.
--
-- Glossary
--   cost_refusal f   the number, the detail and the layer of the fault f: a weight above 100 is number 14, with the weight
--   same_fault f g   whether the faults f and g are equal, causes and details
-- Assumes nothing.
use Rattle.std.specs.Prelude.{◌≡◌, Bool, Decides, nat_eq}
use Rattle.std.proofs.Common.{ap}
use Rattle.std.specs.Cmp.{unsigned_Decides}
use Rattle.refusal.specs.declared.Refusal.{Refusal}
use Rattle.refusal.specs.declared.Layer.TheVariants.{Cost}
use Rattle.cost.specs.declared.fault.CostFault.{CostFault}
use Rattle.cost.specs.declared.fault.CostFault.TheVariants.{Weight}

abbrev pub cost_refusal : CostFault → Refusal
cost_refusal (Weight w) = record { number = 14; detail = w; layer = Cost }

abbrev pub same_fault : CostFault → CostFault → Bool
same_fault (Weight v) (Weight w) = nat_eq v w

-- it is so for a fault and itself alone
pub same_fault_decides : (f g : CostFault) → Decides (same_fault f g) (f ≡ g)
same_fault_decides (Weight v) (Weight w) =
    (λ e. ap Weight ((unsigned_Decides v w).0 e), λ e. (unsigned_Decides v w).1 (cc))
