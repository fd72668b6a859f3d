-- Glossary
--   fields_of l                the fields of the line l: its word, and its numbers as they are printed
--   written l                  the bytes of the line l, without a newline
--   Spelled l                  each number of l has six digits at most
--   is_sectors l               l is a `sectors` line
--   Sound started l            l may stand here: it is spelled, and it is a `sectors` line just where none was accepted yet
--   Agree k xs ys              xs and ys have k fields at least, and the first k are the same
--   LowestWrong started fs k   the fields fs are no sound line, and leave every sound line at the place k, counted from 1: before
--                              it they are the beginning of one (before), with it they are not (here)
--   Misread started bytes k    the bytes are no sound line, and k is the place of their lowest wrong field
--   Reads started bytes r      r is the sound line that the bytes are, or the fault of their lowest wrong field
-- Assumes nothing.
use Rattle.std.specs.Prelude.{◌≡◌, ℕ, ◌-◌, ◌≤◌, Bool, true, false, not, List, [], ◌∷◌, length, take, codes, decimal, Result, MatchResult, ◌≢◌}
use Rattle.text.specs.Faults.{AtField}
use Rattle.plan.specs.declared.change.Change.TheVariants.{Draw, Measure, Close, Open}
use Rattle.text.specs.Numbers.{Small}
use Rattle.text.specs.Pieces.{Fields, joined}
use Rattle.text.specs.declared.fault.TextFault.{TextFault}
use Rattle.text.specs.declared.line.Line.{Line}
use Rattle.text.specs.declared.line.Line.TheVariants.{Sectors, Change}

abbrev pub fields_of : Line → List (List ℕ)
fields_of (Sectors s b h) = codes "sectors" ∷ decimal s ∷ decimal b ∷ decimal h ∷ []
fields_of (Change (Draw e)) = codes "edge" ∷ decimal e.start ∷ decimal e.end ∷ decimal e.length ∷ decimal e.leaving ∷ decimal e.arriving ∷ []
fields_of (Change (Close edge)) = codes "close" ∷ decimal edge ∷ []
fields_of (Change (Open edge)) = codes "open" ∷ decimal edge ∷ []
fields_of (Change (Measure edge size)) = codes "measure" ∷ decimal edge ∷ decimal size ∷ []

abbrev pub written : Line → List ℕ
written l = joined (fields_of l)

abbrev pub Spelled : Line → Type 0
Spelled (Sectors s b h) = Small s × Small b × Small h
Spelled (Change (Draw e)) = Small e.start × Small e.end × Small e.length × Small e.leaving × Small e.arriving
Spelled (Change (Close edge)) = Small edge
Spelled (Change (Open edge)) = Small edge
Spelled (Change (Measure edge size)) = Small edge × Small size

abbrev pub is_sectors : Line → Bool
is_sectors (Sectors s b h) = true
is_sectors (Change c) = false

abbrev pub Sound : Bool → Line → Type 0
Sound started l = Spelled l × (is_sectors l ≡ not started)

abbrev pub Agree : ℕ → List (List ℕ) → List (List ℕ) → Type 0
Agree k xs ys = (k ≤ length xs) × (k ≤ length ys) × (take k xs ≡ take k ys)

pub record LowestWrong (started : Bool) (fs : List (List ℕ)) (k : ℕ) : Type 0 where
  pub place : 1 ≤ k
  pub before : (l : Line) × Sound started l × Agree (k - 1) (fields_of l) fs
  pub here : (l : Line) → Sound started l → Agree k (fields_of l) fs → ⊥
  pub whole : (l : Line) → Sound started l → fields_of l ≢ fs

abbrev pub Misread : Bool → List ℕ → ℕ → Type 0
Misread started bytes k = (fs : List (List ℕ)) × Fields bytes fs × LowestWrong started fs k

abbrev pub Reads : Bool → List ℕ → Result Line TextFault → Type 0
Reads started bytes r = MatchResult r (λ l. (bytes ≡ written l) × Sound started l) (AtField (Misread started bytes))
