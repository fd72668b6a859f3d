-- Glossary
--   Lacks mark bytes               the byte mark stands nowhere in bytes
--   grown b ps                     ps with the byte b put in front of its first piece
--   pieces mark last bytes         the pieces into which each byte mark cuts bytes; where nothing stands behind the last mark,
--                                  last is put for it
--   Alone mark bytes piece         bytes are the one piece, with no mark
--   Leads mark bytes piece after   the piece comes first in bytes, and then a mark and the shorter bytes after
--   lines_of bytes                 the lines of a log: each ends before a newline, which the last may lack
--   split bytes                    the fields of a line: what its tabs part, so that there is always one
--   joined fs                      the fields fs with a tab between each two
--   Fields bytes fs                the line bytes is the fields fs, of which there is one at least and none has a tab
-- Assumes nothing.
use Rattle.std.specs.Prelude.{◌≡◌, ℕ, ◌<◌, cond, List, [], ◌∷◌, ◌++◌, length, ◌==◌, ◌≢◌, slice_index}
use Rattle.std.specs.List.{AllByRecursion}

abbrev pub Lacks : ℕ → List ℕ → Type 0
Lacks mark bytes = (k : ℕ) → k < length bytes → slice_index bytes k ≢ mark

abbrev pub grown : ℕ → List (List ℕ) → List (List ℕ)
grown b [] = (b ∷ []) ∷ []
grown b (p ∷ ps) = (b ∷ p) ∷ ps

abbrev pub pieces : ℕ → List (List ℕ) → List ℕ → List (List ℕ)
pieces mark last [] = last
pieces mark last (b ∷ bytes) = cond (b == mark) ([] ∷ pieces mark last bytes) (grown b (pieces mark last bytes))

abbrev pub lines_of : List ℕ → List (List ℕ)
lines_of bytes = pieces 10 [] bytes

abbrev pub split : List ℕ → List (List ℕ)
split bytes = pieces 9 ([] ∷ []) bytes

abbrev pub joined : List (List ℕ) → List ℕ
joined [] = []
joined (f ∷ []) = f
joined (f ∷ g ∷ fs) = f ++ (9 ∷ joined (g ∷ fs))

abbrev pub Alone : ℕ → List ℕ → List ℕ → Type 0
Alone mark bytes piece = (pieces mark ([] ∷ []) bytes ≡ piece ∷ []) × (0 < length bytes → pieces mark [] bytes ≡ piece ∷ [])

abbrev pub Leads : ℕ → List ℕ → List ℕ → List ℕ → Type 0
Leads mark bytes piece after = ((last : List (List ℕ)) → pieces mark last bytes ≡ piece ∷ pieces mark last after) × (length after < length bytes)

pub record Fields (bytes : List ℕ) (fs : List (List ℕ)) : Type 0 where
  pub some : 0 < length fs
  pub clean : AllByRecursion (Lacks 9) fs
  pub whole : bytes ≡ joined fs
