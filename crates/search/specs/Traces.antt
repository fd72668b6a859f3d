-- Following the previous edges of the labels back from an edge.
--
-- Glossary
--   Traceable g L z size     the previous edges lead back from z over fewer than 1,024 edges, which with z fit into a list of that size
--   Traced g z t before after charge long   the list begins with the walk to z over the edges t, in walking order, and is unchanged behind it; charge and long
--                            are the sums of its charges and its lengths
-- Assumes nothing.
use Rattle.std.specs.Prelude.{◌≡◌, ℕ, ◌+◌, ◌<◌, List, ◌∷◌, ◌++◌, reverse, length, drop}
use Rattle.walks.specs.Labels.{Labelling, Trail}
use Rattle.walks.specs.Networks.{Network, walk_charge, walk_length}

abbrev pub Traceable : Network → Labelling → ℕ → ℕ → Type 0
Traceable g L z size = (t : List ℕ) × Trail g L z t × (length t < size) × (length t < 1024)

pub record Traced (g : Network) (z : ℕ) (t before after : List ℕ) (charge long : ℕ) : Type 0 where
  pub route : after ≡ reverse (z ∷ t) ++ drop (length t + 1) before
  pub charges : charge ≡ walk_charge g (reverse (z ∷ t))
  pub lengths : long ≡ walk_length g (reverse (z ∷ t))
