-- Single edge rows.
--
-- Glossary
--   leaves j r    the edge r starts at the junction j
--   joins s e r   the edge r starts at s and ends at e
--   fine r        the row r is within its bounds: two different junctions below 1,024, a length from 1 to 100,000, bearings below 360
-- Assumes nothing.
use Rattle.std.specs.Prelude.{ℕ, Bool, not, ◌&&◌, ◌==◌, nat_le, nat_lt}
use Rattle.plan.specs.declared.row.EdgeRow.{EdgeRow}

abbrev pub leaves : ℕ → EdgeRow → Bool
leaves j r = r.start == j

abbrev pub joins : ℕ → ℕ → EdgeRow → Bool
joins s e r = r.start == s && r.end == e

abbrev pub fine : EdgeRow → Bool
fine r =
    nat_lt r.start 1024 && (nat_lt r.end 1024 && (not (r.start == r.end)
    && (nat_lt 0 r.length && (nat_le r.length 100000 && (nat_lt r.leaving 360 && nat_lt r.arriving 360)))))
