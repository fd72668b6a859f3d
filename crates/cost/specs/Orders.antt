-- How two rows compare.
--
-- Glossary
--   Orders o a b   o is the order of the rows a and b: Less where a is less than b, Equal where they are the same, Greater where b is less than a
-- Assumes nothing.
use Rattle.std.specs.Prelude.{◌≡◌}
use Rattle.std.specs.declared.cmp.Ordering.{Ordering}
use Rattle.std.specs.Ordering.{MatchOrdering as ByOrder}
use Rattle.cost.specs.Rows.{Row, Less}

abbrev pub Orders : Ordering → Row → Row → Type 0
Orders o a b = ByOrder o (Less a b) (a ≡ b) (Less b a)
