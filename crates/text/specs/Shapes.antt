-- Glossary
--   left_after rest        the fields of the bytes behind a tab, if there are any
--   fields_left c          the fields that the cursor c has before it
--   Unlike P fs            the first of the fields fs is missing or not as P asks
--   Misses Ps fs k         the fields fs, taken in turn, are not just those that Ps asks for, and the first k of them are
--   MissesFrom n Ps fs m   the same, where the first of the fields has the place n, and the first wrong one the place m
-- Assumes nothing.
use Rattle.std.specs.Prelude.{◌≡◌, ℕ, zero, suc, ◌+◌, List, [], ◌∷◌, Some, None, Option}
use Rattle.std.specs.Borrow.{Bor}
use Rattle.text.specs.Pieces.{split}
use Rattle.text.specs.declared.cursor.Cursor.{Cursor}

abbrev pub left_after : Option (Bor (List ℕ)) → List (List ℕ)
left_after None = []
left_after (Some bytes) = split bytes.now

abbrev pub fields_left : Cursor → List (List ℕ)
fields_left c = left_after c.rest

abbrev pub Unlike : (List ℕ → Type 0) → List (List ℕ) → Type 0
Unlike P [] = Unit {0}
Unlike P (f ∷ fs) = P f → ⊥

abbrev pub Misses : List (List ℕ → Type 0) → List (List ℕ) → ℕ → Type 0
Misses [] [] k = ⊥
Misses [] (f ∷ fs) k = k ≡ 0
Misses (P ∷ Ps) fs zero = Unlike P fs
Misses (P ∷ Ps) [] (suc k) = ⊥
Misses (P ∷ Ps) (f ∷ fs) (suc k) = P f × Misses Ps fs k

abbrev pub MissesFrom : ℕ → List (List ℕ → Type 0) → List (List ℕ) → ℕ → Type 0
MissesFrom first Ps fs n = (k : ℕ) × (n ≡ first + k) × Misses Ps fs k
