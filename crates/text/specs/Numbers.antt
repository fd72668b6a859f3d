-- Glossary
--   Small n           n has six digits at most
--   Spelt f n         the field f is the small number n, as it is printed
--   Number f          the field f is some such number
--   from i n xs       the n elements of xs from index i on
--   Numbers n fs ns   the fields fs are the first n numbers of ns, each small and as it is printed
-- Assumes nothing.
use Rattle.std.specs.Prelude.{◌≡◌, ℕ, zero, suc, ◌≤◌, List, [], ◌∷◌, map, decimal, slice_index}
use Rattle.std.specs.List.{AllByRecursion}

abbrev pub Small : ℕ → Type 0
Small n = n ≤ 999999

abbrev pub Spelt : List ℕ → ℕ → Type 0
Spelt f n = Small n × (f ≡ decimal n)

abbrev pub Number : List ℕ → Type 0
Number f = (n : ℕ) × Spelt f n

abbrev pub from : ℕ → ℕ → List ℕ → List ℕ
from i zero xs = []
from i (suc n) xs = slice_index xs i ∷ from (suc i) n xs

abbrev pub Numbers : ℕ → List (List ℕ) → List ℕ → Type 0
Numbers n fs ns = (fs ≡ map decimal (from 0 n ns)) × AllByRecursion Small (from 0 n ns)
