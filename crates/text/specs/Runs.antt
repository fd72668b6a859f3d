-- How far a play has come.
--
-- Glossary
--   left_of l, taken_of l   the lines that are not taken yet, and the number of those that are
--   begun_with r            the answer r of beginning a drawing, with the limits as plain numbers
--   Moment                  where a play stands: its state, the number of lines taken, the lines left and the text of the replies so far
--   moment st l text        the moment in the state st, with the lines l before it, after the text
--   moment_over d sheet l text   the same in the study that the drawing d and the bytes of the sheet are
--   Went rows size m m'     playing the next lines of the moment m leads to the moment m': `done` are those lines, and `shown` their replies
--   Ends rows size m st text   playing all lines that are left at m ends in the state st, with the text
--   Stops rows size m st    playing some of the lines that are left at m leads to the state st
--   newly l rows sheet      the study of a new drawing: the limits l, so many rows, no edges, and the sheet as it is
--   Ended, Stopped          the same, with what the lists hold then, where the rows were rows₀
-- Assumes nothing.
use Rattle.std.specs.Prelude.{◌≡◌, ℕ, ◌+◌, List, [], ◌++◌, length, Some, Ok, Err, Option, Result}
use Rattle.turns.specs.Sectors.{Limits, limits_of}
use Rattle.turns.specs.declared.sectors.Sectors.{Sectors}
use Rattle.plan.specs.declared.drawing.Drawing.{Drawing}
use Rattle.plan.specs.declared.row.EdgeRow.{EdgeRow}
use Rattle.plan.specs.Studies.{Study, study_of}
use Rattle.text.specs.Pieces.{lines_of}
use Rattle.text.specs.Plays.{Holds, Played}
use Rattle.text.specs.declared.fault.TextFault.{TextFault}
use Rattle.text.specs.declared.lines.Lines.{Lines}

abbrev pub left_of : Lines → List (List ℕ)
left_of l = lines_of l.rest.now

abbrev pub taken_of : Lines → ℕ
taken_of l = l.taken

abbrev pub begun_with : Result Sectors TextFault → Result Limits TextFault
begun_with (Ok x) = Ok (limits_of x)
begun_with (Err f) = Err f

pub record Moment : Type 0 where
  pub state : Option Study
  pub taken : ℕ
  pub left : List (List ℕ)
  pub text : List ℕ

abbrev pub moment : Option Study → Lines → List ℕ → Moment
moment st l text = record { state = st; taken = taken_of l; left = left_of l; text = text }

abbrev pub moment_over : Drawing → List ℕ → Lines → List ℕ → Moment
moment_over d sheet l text = moment (Some (study_of d sheet)) l text

pub record Went (rows size : ℕ) (m m' : Moment) : Type 0 where
  pub done : List (List ℕ)
  pub shown : List ℕ
  pub parts : m.left ≡ done ++ m'.left
  pub number : m'.taken ≡ m.taken + length done
  pub text : m'.text ≡ m.text ++ shown
  pub played : Played rows size m.state (m.taken + 1) done shown m'.state

abbrev pub Ends : ℕ → ℕ → Moment → Option Study → List ℕ → Type 0
Ends rows size m st text = (taken : ℕ) × Went rows size m (record { state = st; taken = taken; left = []; text = text })

abbrev pub Stops : ℕ → ℕ → Moment → Option Study → Type 0
Stops rows size m st =
    (taken : ℕ) × (left : List (List ℕ)) × (text : List ℕ)
    × Went rows size m (record { state = st; taken = taken; left = left; text = text })

abbrev pub newly : Limits → ℕ → List ℕ → Study
newly l rows sheet = record { limits = l; rows = rows; edges = []; sheet = sheet }

abbrev pub Ended : List EdgeRow → ℕ → Moment → List ℕ → List EdgeRow → List ℕ → Type 0
Ended rows₀ size m text rows sheet =
    (st : Option Study) × Ends (length rows₀) size m st text × Holds st rows₀ rows sheet size

abbrev pub Stopped : List EdgeRow → ℕ → Moment → List EdgeRow → List ℕ → Type 0
Stopped rows₀ size m rows sheet = (st : Option Study) × Stops (length rows₀) size m st × Holds st rows₀ rows sheet size
