-- How the numbers that a cost stores are read, whatever bits it was brought with.
--
-- Glossary
--   count n         the additions that a stored n means: n, and 1,024 where n is above that
--   held most n x   what a stored place x means, where n is the stored number of additions and one addition adds at most
--                   `most` there: x, and what these additions allow where x is above that
-- Assumes nothing.
use Rattle.std.specs.Prelude.{ℕ, ◌*◌, min}

abbrev pub count : ℕ → ℕ
count n = min n 1024

abbrev pub held : ℕ → ℕ → ℕ → ℕ
held most n x = min x (count n * most)
