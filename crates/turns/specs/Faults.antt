-- The refusals of the layer `plan`.
--
-- Glossary
--   plan_refusal f   the number, the detail and the layer of the fault f
-- Assumes nothing.
use Rattle.std.specs.Prelude.{ℕ}
use Rattle.refusal.specs.declared.Layer.TheVariants.{Plan}
use Rattle.refusal.specs.declared.Refusal.{Refusal}
use Rattle.turns.specs.declared.fault.PlanFault.{PlanFault}
use Rattle.turns.specs.declared.fault.PlanFault.TheVariants.{BadLimits, Full, BadJunction, BadLength, BadBearing, Repeated, Crowded, NotDrawn, Already, ShortSheet}

abbrev pub by_plan : ℕ → ℕ → Refusal
by_plan number detail = record { number = number; detail = detail; layer = Plan }

abbrev pub plan_refusal : PlanFault → Refusal
plan_refusal (BadLimits limit) = by_plan 1 limit
plan_refusal (Full drawn) = by_plan 2 drawn
plan_refusal (BadJunction junction) = by_plan 3 junction
plan_refusal (BadLength length) = by_plan 4 length
plan_refusal (BadBearing bearing) = by_plan 5 bearing
plan_refusal (Repeated edge) = by_plan 6 edge
plan_refusal (Crowded junction) = by_plan 7 junction
plan_refusal (NotDrawn edge) = by_plan 8 edge
plan_refusal (Already edge) = by_plan 9 edge
plan_refusal (ShortSheet drawn) = by_plan 10 drawn
