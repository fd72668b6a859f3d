-- The plain model of a study, and how the calls that change a study move it.
--
-- Glossary
--   Study              sector limits, the number of rows, the list of drawn edges, and the bytes of the closing sheet
--   study_of d sheet   the study that the drawing d and the bytes of the sheet are
--   begun l rows size  the study at its making: no edges, and a sheet of `size` zeros
--   shut sheet e       whether the edge e is shut on the sheet: its byte is not 0
--   refusal_of s c     why the study s turns the change c down, if it does: the first of its checks, in their order, that fails
--   room_fault, junction_fault, length_fault, bearing_fault, neighbour_fault, drawn_fault, sheet_fault, already_fault
--                      the single checks: 2; 3; 4; 5; 6 and 7; 8; 10; 9
--   row_fault          the checks of a row by itself: 3, 4 and 5
--   draw_fault         all the checks of drawing: 2 to 7
--   answered f x       the answer of a call with the fault f, if any, and else the value x
--   changed s c        the study after a change c that is not refused: drawing puts the edge last, measuring writes that edge's length, closing
--                      writes 1 and opening 0 at the edge's byte
--   spare_left r rows  the spare rows after drawing: without the first where an edge was drawn
--   put_last p row     the plan p with one edge more
--   row_of e           the row of the edge e that is brought
--   brought r          the edge that would be brought for the row r
--   with_length r long the row r with this length
--   number_drawn s c   the number of the edge that the change c draws in the study s, if it draws one
--   switching shut e   the change that closes the edge e, or opens it
--   place start end edges   the number of the edge from start to end, or the number of edges where there is none
--   next s c           the study after the change c, refused or not: a refused change changes nothing
--   after s cs         the study after all changes of the list cs, the first first
-- Assumes nothing.
use Rattle.std.specs.Prelude.{ℕ, Bool, true, false, cond, not, List, [], ◌∷◌, ◌++◌, length, drop, replicate, Some, None, Ok, Err, count_by, Option, Result, ◌==◌, nat_le, nat_lt, slice_index, slice_index_or, slice_set}
use Rattle.std.specs.List.{prefix_len}
use Rattle.turns.specs.Sectors.{Limits}
use Rattle.turns.specs.declared.fault.PlanFault.{PlanFault}
use Rattle.turns.specs.declared.fault.PlanFault.TheVariants.{Full, BadJunction, BadLength, BadBearing, Repeated, Crowded, NotDrawn, Already, ShortSheet}
use Rattle.plan.specs.Plans.{Plan, plan_of, rows_of, no_row}
use Rattle.plan.specs.Rows.{joins, leaves}
use Rattle.plan.specs.declared.change.Change.{Change}
use Rattle.plan.specs.declared.change.NewEdge.{NewEdge}
use Rattle.plan.specs.declared.change.Change.TheVariants.{Draw, Measure, Close, Open}
use Rattle.plan.specs.declared.drawing.Drawing.{Drawing}
use Rattle.plan.specs.declared.row.EdgeRow.{EdgeRow}

pub record Study : Type 0 where
  pub limits : Limits
  pub rows : ℕ
  pub edges : List EdgeRow
  pub sheet : List ℕ

abbrev pub study_of : Drawing → List ℕ → Study
study_of d sheet = record { limits = (plan_of d).limits; rows = rows_of d; edges = (plan_of d).edges; sheet = sheet }

abbrev pub begun : Limits → ℕ → ℕ → Study
begun l rows size = record { limits = l; rows = rows; edges = []; sheet = replicate size 0 }

abbrev pub shut : List ℕ → ℕ → Bool
shut sheet e = not (slice_index sheet e == 0)

abbrev pub row_of : NewEdge → EdgeRow
row_of e = record { start = e.start; end = e.end; length = e.length; leaving = e.leaving; arriving = e.arriving }

abbrev pub brought : EdgeRow → NewEdge
brought r = record { start = r.start; end = r.end; length = r.length; leaving = r.leaving; arriving = r.arriving }

abbrev pub with_length : EdgeRow → ℕ → EdgeRow
with_length r long = record { start = r.start; end = r.end; length = long; leaving = r.leaving; arriving = r.arriving }

abbrev pub place : ℕ → ℕ → List EdgeRow → ℕ
place start end edges = prefix_len (λ r. not (joins start end r)) edges

-- the first of two faults, if there is any
abbrev pub otherwise : Option PlanFault → Option PlanFault → Option PlanFault
otherwise (Some f) g = Some f
otherwise None g = g

-- a call's answer: its fault, or else the value
abbrev pub answered : {A : Type 0} → Option PlanFault → A → Result A PlanFault
answered (Some f) x = Err f
answered None x = Ok x

abbrev pub room_fault : ℕ → List EdgeRow → Option PlanFault
room_fault rows edges =
    cond (nat_le rows (length edges)) (Some (Full (length edges)))
    (cond (nat_le 1024 (length edges)) (Some (Full (length edges))) None)

abbrev pub junction_fault : ℕ → ℕ → Option PlanFault
junction_fault start end =
    cond (nat_lt 1023 start) (Some (BadJunction start))
    (cond (start == end) (Some (BadJunction start))
    (cond (nat_lt 1023 end) (Some (BadJunction end)) None))

abbrev pub length_fault : ℕ → Option PlanFault
length_fault long = cond (nat_lt long 1) (Some (BadLength long)) (cond (nat_lt 100000 long) (Some (BadLength long)) None)

abbrev pub bearing_fault : ℕ → ℕ → Option PlanFault
bearing_fault leaving arriving =
    cond (nat_lt 359 leaving) (Some (BadBearing leaving)) (cond (nat_lt 359 arriving) (Some (BadBearing arriving)) None)

abbrev pub row_fault : NewEdge → Option PlanFault
row_fault e =
    otherwise (junction_fault e.start e.end) (otherwise (length_fault e.length) (bearing_fault e.leaving e.arriving))

abbrev pub neighbour_fault : List EdgeRow → ℕ → ℕ → Option PlanFault
neighbour_fault edges start end =
    cond (nat_lt (place start end edges) (length edges)) (Some (Repeated (place start end edges)))
    (cond (nat_le 16 (count_by (leaves start) edges)) (Some (Crowded start)) None)

abbrev pub draw_fault : ℕ → List EdgeRow → NewEdge → Option PlanFault
draw_fault rows edges e =
    otherwise (room_fault rows edges)
    (otherwise (row_fault e) (neighbour_fault edges e.start e.end))

abbrev pub drawn_fault : List EdgeRow → ℕ → Option PlanFault
drawn_fault edges edge = cond (nat_le (length edges) edge) (Some (NotDrawn edge)) None

abbrev pub sheet_fault : List EdgeRow → List ℕ → Option PlanFault
sheet_fault edges sheet = cond (nat_lt (length sheet) (length edges)) (Some (ShortSheet (length edges))) None

abbrev pub already_fault : Bool → ℕ → Option PlanFault
already_fault already edge = cond already (Some (Already edge)) None

abbrev pub refusal_of : Study → Change → Option PlanFault
refusal_of s (Draw e) = draw_fault s.rows s.edges e
refusal_of s (Measure edge long) = otherwise (length_fault long) (drawn_fault s.edges edge)
refusal_of s (Close edge) =
    otherwise (drawn_fault s.edges edge)
    (otherwise (sheet_fault s.edges s.sheet) (already_fault (shut s.sheet edge) edge))
refusal_of s (Open edge) =
    otherwise (drawn_fault s.edges edge)
    (otherwise (sheet_fault s.edges s.sheet) (already_fault (not (shut s.sheet edge)) edge))

abbrev pub measured : List EdgeRow → ℕ → ℕ → List EdgeRow
measured edges edge long = slice_set edges edge (with_length (slice_index_or edges edge no_row) long)

abbrev pub put_last : Plan → EdgeRow → Plan
put_last p row = record { limits = p.limits; edges = p.edges ++ row ∷ [] }

abbrev pub with_edges : Study → List EdgeRow → Study
with_edges s edges = record { limits = s.limits; rows = s.rows; edges = edges; sheet = s.sheet }

abbrev pub with_sheet : Study → List ℕ → Study
with_sheet s sheet = record { limits = s.limits; rows = s.rows; edges = s.edges; sheet = sheet }

-- the study after a change that is not refused
abbrev pub changed : Study → Change → Study
changed s (Draw e) = with_edges s (s.edges ++ row_of e ∷ [])
changed s (Measure edge long) = with_edges s (measured s.edges edge long)
changed s (Close edge) = with_sheet s (slice_set s.sheet edge 1)
changed s (Open edge) = with_sheet s (slice_set s.sheet edge 0)

abbrev pub unless : Option PlanFault → Study → Study → Study
unless (Some f) same moved = same
unless None same moved = moved

abbrev pub next : Study → Change → Study
next s c = unless (refusal_of s c) s (changed s c)

abbrev pub after : Study → List Change → Study
after s [] = s
after s (c ∷ cs) = after (next s c) cs

abbrev pub spare_left : {A : Type 0} → Result A PlanFault → List EdgeRow → List EdgeRow
spare_left (Ok x) spare = drop 1 spare
spare_left (Err f) spare = spare

abbrev pub number_drawn : Study → Change → Option ℕ
number_drawn s (Draw e) = Some (length s.edges)
number_drawn s (Measure edge long) = None
number_drawn s (Close edge) = None
number_drawn s (Open edge) = None

abbrev pub switching : Bool → ℕ → Change
switching true edge = Close edge
switching false edge = Open edge
