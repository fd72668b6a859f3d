-- Glossary
--   word_of κ             the word of the lines of the kind κ
--   kind_of l             the kind of the line l
--   is_opening κ          κ is the kind of `sectors` lines
--   shape κ               what the fields behind the word of a line of the kind κ have to be, in turn
--   ReadAs κ fs r         r is the line of the kind κ whose fields behind its word are fs, or the fault of the first wrong one
--   NoLine started fs k   k is the place of the lowest wrong field of each line with the fields fs
-- Assumes nothing.
use Rattle.std.specs.Prelude.{◌≡◌, ℕ, Bool, true, false, List, ◌∷◌, replicate, codes, Result, MatchResult}
use Rattle.text.specs.Faults.{AtField}
use Rattle.plan.specs.declared.change.Change.TheVariants as change
use Rattle.text.specs.Lines.{Misread, Spelled, fields_of}
use Rattle.text.specs.Numbers.{Number}
use Rattle.text.specs.Pieces.{split}
use Rattle.text.specs.Shapes.{MissesFrom}
use Rattle.text.specs.declared.fault.TextFault.{TextFault}
use Rattle.text.specs.declared.kind.Kind.{Kind}
use Rattle.text.specs.declared.kind.Kind.TheVariants as kind
use Rattle.text.specs.declared.line.Line.{Line}
use Rattle.text.specs.declared.line.Line.TheVariants as line

abbrev pub word_of : Kind → List ℕ
word_of kind.Sectors = codes "sectors"
word_of kind.Edge = codes "edge"
word_of kind.Close = codes "close"
word_of kind.Open = codes "open"
word_of kind.Measure = codes "measure"

abbrev pub kind_of : Line → Kind
kind_of (line.Sectors s b h) = kind.Sectors
kind_of (line.Change (change.Draw e)) = kind.Edge
kind_of (line.Change (change.Close edge)) = kind.Close
kind_of (line.Change (change.Open edge)) = kind.Open
kind_of (line.Change (change.Measure edge size)) = kind.Measure

abbrev pub is_opening : Kind → Bool
is_opening kind.Sectors = true
is_opening kind.Edge = false
is_opening kind.Close = false
is_opening kind.Open = false
is_opening kind.Measure = false

abbrev pub shape : Kind → List (List ℕ → Type 0)
shape kind.Sectors = replicate 3 Number
shape kind.Edge = replicate 5 Number
shape kind.Close = replicate 1 Number
shape kind.Open = replicate 1 Number
shape kind.Measure = replicate 2 Number

abbrev pub ReadAs : Kind → List (List ℕ) → Result Line TextFault → Type 0
ReadAs κ fs r = MatchResult r (λ l. (fields_of l ≡ word_of κ ∷ fs) × Spelled l × (kind_of l ≡ κ)) (AtField (MissesFrom 2 (shape κ) fs))

abbrev pub NoLine : Bool → List (List ℕ) → ℕ → Type 0
NoLine started fs k = (bytes : List ℕ) → split bytes ≡ fs → Misread started bytes k
