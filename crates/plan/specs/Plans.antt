-- What a drawing means: its limits and its drawn edges; and what the rules above it read of that.
--
-- Glossary
--   Plan              sector limits and the list of drawn edges; an edge's number is its place, from 0
--   plan_of d         the plan of the drawing d
--   spare_of d        the rows of d that are not drawn yet, as they lie
--   rows_of d         how many rows d has, drawn and spare
--   lender_of d       which list of rows d was made over: the name by which a caller follows what it lent
--   Over rows d       the drawing d lies over these rows: behind its edges they are as they were brought
--   edge_at p e       the row of the edge e (a row of zeros where e is not drawn)
--   degree p j        how many edges leave the junction j
--   steps p e f       whether a step leads from the edge e to the edge f: both are drawn, f starts where e ends, and f does not end where e starts
--   step_class p e f  the class of the turn from e to f
--   step_found p e f  the class of the step from e to f, or none where there is no step
--   Sound p           what holds of the plan of every drawing: each row is within its bounds, no two edges share both start and end,
--                     at most 16 leave a junction, at most 1,024 are drawn, and the limits are in order
-- Assumes nothing.
use Rattle.std.specs.Prelude.{◌≡◌, ℕ, ◌<◌, ◌≤◌, Bool, true, cond, not, ◌&&◌, List, length, take, drop, Some, None, count_by, Option, ◌==◌, nat_lt, slice_index_or}
use Rattle.turns.specs.Sectors.{Limits, limits_of}
use Rattle.turns.specs.Turns.{angle, class_of}
use Rattle.turns.specs.declared.class.Class.{Class}
use Rattle.plan.specs.Rows.{fine, joins, leaves}
use Rattle.plan.specs.declared.drawing.Drawing.{Drawing}
use Rattle.plan.specs.declared.row.EdgeRow.{EdgeRow}

pub record Plan : Type 0 where
  pub limits : Limits
  pub edges : List EdgeRow

unfoldable pub plan_of : Drawing → Plan
plan_of d = record { limits = limits_of d.limits; edges = take d.count d.rows.now }

unfoldable pub spare_of : Drawing → List EdgeRow
spare_of d = drop d.count d.rows.now

abbrev pub rows_of : Drawing → ℕ
rows_of d = length d.rows.now

abbrev pub lender_of : Drawing → ℕ
lender_of d = d.rows.ghost_name

abbrev pub Over : List EdgeRow → Drawing → Type 0
Over rows d = spare_of d ≡ drop (length (plan_of d).edges) rows

abbrev pub no_row : EdgeRow
no_row = record { start = 0; end = 0; length = 0; leaving = 0; arriving = 0 }

abbrev pub edge_at : Plan → ℕ → EdgeRow
edge_at p e = slice_index_or p.edges e no_row

abbrev pub degree : Plan → ℕ → ℕ
degree p j = count_by (leaves j) p.edges

abbrev pub steps : Plan → ℕ → ℕ → Bool
steps p e f =
    nat_lt e (length p.edges) && (nat_lt f (length p.edges)
    && ((edge_at p f).start == (edge_at p e).end && not ((edge_at p f).end == (edge_at p e).start)))

abbrev pub step_class : Plan → ℕ → ℕ → Class
step_class p e f = class_of p.limits (angle (edge_at p e).arriving (edge_at p f).leaving)

abbrev pub step_found : Plan → ℕ → ℕ → Option Class
step_found p e f = cond (steps p e f) (Some (step_class p e f)) None

pub record Sound (p : Plan) : Type 0 where
  pub straight : p.limits.s ≤ p.limits.b
  pub bear : p.limits.b ≤ p.limits.h
  pub half : p.limits.h ≤ 180
  pub few : length p.edges ≤ 1024
  pub bounds : (e : ℕ) → e < length p.edges → fine (edge_at p e) ≡ true
  pub single : (s e : ℕ) → count_by (joins s e) p.edges ≤ 1
  pub narrow : (j : ℕ) → degree p j ≤ 16
