-- Rows of whole numbers, as costs have them, and their order.
--
-- Glossary
--   Row          a list of whole numbers from 0 up, one for each place
--   Less a b     a and b differ, and at the first place where they do a has the lower number
--   plus a b     the row that has at each place the sum of the two (what one row lacks counts as 0)
--   zeros n      the row of n places that are all 0
-- Assumes nothing.
use Rattle.std.specs.Prelude.{◌≡◌, ℕ, ◌+◌, ◌<◌, ◌⊎◌, List, [], ◌∷◌, replicate}

abbrev pub Row : Type 0
Row = List ℕ

abbrev pub Less : Row → Row → Type 0
Less [] ys = ⊥
Less (x ∷ xs) [] = ⊥
Less (x ∷ xs) (y ∷ ys) = (x < y) ⊎ ((x ≡ y) × Less xs ys)

abbrev pub plus : Row → Row → Row
plus [] ys = ys
plus (x ∷ xs) [] = x ∷ xs
plus (x ∷ xs) (y ∷ ys) = (x + y) ∷ plus xs ys

abbrev pub zeros : ℕ → Row
zeros n = replicate n 0
