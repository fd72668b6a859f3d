-- What the labels of a search mean, for any kind of cost.
--
-- Glossary
--   Kind              what a kind of cost means by settings, rows, additions and amounts
--   Mark              a plain label: a row, a number of edges and a previous edge
--   plain K x         the plain label that the label x holds
--   SameKey x y       x and y cost the same and have as many edges
--   meaning K x       the plain label that x holds, or none where its number of edges is 0
--   label_in K ls e   what the labels ls hold for the edge e, in this sense
--   Blank K s x       x is the label of an edge to which no walk leads: the empty cost with the settings s, 0 edges and the previous edge 65,535
--   Fine K s x        x has the settings s and as many additions as edges, and is Blank where it has no edges
--   Short K ls n      no label of ls is of a walk with more than n edges
--   Each P xs         P holds of each element of xs
-- Assumes nothing.
use Rattle.std.specs.Prelude.{◌≡◌, ℕ, ◌<◌, ◌≤◌, cond, List, map, length, Some, None, Option, ◌==◌, slice_index_or}
use Rattle.cost.specs.Rows.{zeros}
use Rattle.cost.specs.declared.kind.CostKind.{Ghosts as Kind}
use Rattle.walks.specs.Labels.{Label as Mark, none}
use Rattle.search.specs.declared.label.Label.{Label}

abbrev pub plain : {C : Type 0} → Kind C → Label C → Mark
plain K x = record { row = K.row x.cost; edges = x.edges; previous = x.previous }

abbrev pub SameKey : Mark → Mark → Type 0
SameKey x y = (x.row ≡ y.row) × (x.edges ≡ y.edges)

abbrev pub meaning : {C : Type 0} → Kind C → Label C → Option Mark
meaning K x = cond (x.edges == 0) None (Some (plain K x))

abbrev pub label_in : {C : Type 0} → Kind C → List (Label C) → ℕ → Option Mark
label_in K ls e = slice_index_or (map (meaning K) ls) e None

pub record Blank {C : Type 0} (K : Kind C) (s : K.Settings) (x : Label C) : Type 0 where
  pub kept : K.settings x.cost ≡ s
  pub unadded : K.additions x.cost ≡ 0
  pub empty : K.row x.cost ≡ zeros K.places
  pub unreached : x.edges ≡ 0
  pub alone : x.previous ≡ none

pub record Fine {C : Type 0} (K : Kind C) (s : K.Settings) (x : Label C) : Type 0 where
  pub kept : K.settings x.cost ≡ s
  pub added : K.additions x.cost ≡ x.edges
  pub blank : x.edges ≡ 0 → Blank K s x

abbrev pub Each : {X : Type 0} → (X → Type 0) → List X → Type 0
Each {X} P xs = (k : ℕ) (d : X) → k < length xs → P (slice_index_or xs k d)

abbrev pub Short : {C : Type 0} → Kind C → List (Label C) → ℕ → Type 0
Short K ls n = (e : ℕ) (x : Mark) → label_in K ls e ≡ Some x → x.edges ≤ n
