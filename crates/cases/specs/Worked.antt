-- The worked examples that are proved: one small table over the definitions that the contracts use.
--
-- Glossary
--   hall l rows     the plan of these limits and rows
--   row s e l a     an edge from s to e, 100 long, that leaves on l and arrives on a
--   crossing        at a junction with four leaving edges, one of them straight ahead of the edge 0
--   fork l          the edge 0 arrives on 90 where the edges 1 and 2 leave on 0 and on 30, under the limits l
--   Worked          the table
-- Assumes nothing.
use Rattle.std.specs.Prelude.{◌≡◌, ℕ, List, [], ◌∷◌, pos, negsuc}
use Rattle.turns.specs.Sectors.{Limits}
use Rattle.turns.specs.Turns.{angle, class_of}
use Rattle.turns.specs.declared.class.Class.TheVariants.{Straight, BearRight, SharpRight, Left}
use Rattle.plan.specs.Plans.{Plan}
use Rattle.plan.specs.Studies.{row_of}
use Rattle.plan.specs.declared.row.EdgeRow.{EdgeRow}
use Rattle.rules.specs.Ambiguity.{ambiguity_charge}
use Rattle.rules.specs.Slots.{slots_charge}
use Rattle.cost.specs.Weights.{weighted_amount}

abbrev pub limits : ℕ → ℕ → ℕ → Limits
limits s b h = record { s = s; b = b; h = h }

abbrev pub row : ℕ → ℕ → ℕ → ℕ → EdgeRow
row start end leaving arriving = row_of (record { start = start; end = end; length = 100; leaving = leaving; arriving = arriving })

abbrev pub hall : Limits → List EdgeRow → Plan
hall l rows = record { limits = l; edges = rows }

abbrev pub crossing : Plan
crossing = hall (limits 20 60 120) (row 0 1 90 90 ∷ row 1 2 90 90 ∷ row 1 3 0 0 ∷ row 1 4 180 180 ∷ row 1 5 45 45 ∷ [])

abbrev pub fork : Limits → Plan
fork l = hall l (row 0 1 90 90 ∷ row 1 2 0 0 ∷ row 1 3 30 30 ∷ [])

pub record Worked : Type 0 where
  pub quarter_left : angle 90 0 ≡ negsuc 89
  pub over_north : angle 350 10 ≡ pos 20
  pub half_turn : angle 0 180 ≡ pos 180
  pub past_half : angle 0 181 ≡ negsuc 178
  pub still_straight : class_of (limits 20 60 120) (pos 20) ≡ Straight
  pub just_bearing : class_of (limits 20 60 120) (pos 21) ≡ BearRight
  pub just_left : class_of (limits 20 60 120) (negsuc 60) ≡ Left
  pub just_sharp : class_of (limits 20 60 120) (pos 121) ≡ SharpRight
  pub turning_at_four : slots_charge crossing 0 2 ≡ 9
  pub both_left : (ambiguity_charge (fork (limits 12 12 180)) 0 1 ≡ 1) × (ambiguity_charge (fork (limits 12 12 180)) 0 2 ≡ 1)
  pub told_apart : (ambiguity_charge (fork (limits 12 60 120)) 0 1 ≡ 0) × (ambiguity_charge (fork (limits 12 60 120)) 0 2 ≡ 0)
  pub one_and_six : weighted_amount (record { distance = 1; charge = 6 }) 6 450 ≡ 486 ∷ []
