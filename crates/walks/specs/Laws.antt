-- What is proved of rows, walks and labellings, over every network.
--
-- Glossary
--   RowLaws             the order of rows: no row comes before itself, it is transitive, two rows of equal length are in order or equal;
--                       adding a row on both sides keeps it, and no sum comes before its first row
--   SimplestUnique      at most one walk is simplest
--   SimplestBegins      where amounts are even, the simplest walk to an edge on a simplest walk is the beginning of that walk
--   AlikeSimplest       networks that are alike have the same simplest walks, with the same costs, charges and lengths
--   PushLaws            what one more edge at the end of a walk adds to its cost, charges and lengths
--   CertifiedRight      where amounts are even, a certified labelling has the labels of the simplest walks, and leaves out just the edges that no walk leads to
--   CertifiedTrails     where amounts are even, in a certified labelling the previous edges lead from a labelled edge back over its simplest walk
-- Assumes nothing.
use Rattle.std.specs.Prelude.{◌≡◌, ℕ, ◌+◌, ◌<◌, ◌⊎◌, List, [], ◌∷◌, ◌++◌, reverse, length, Some}
use Rattle.cost.specs.Rows.{Less, plus}
use Rattle.walks.specs.Networks.{Network, Even, final, walk_row, walk_charge, walk_length, Simplest, Alike}
use Rattle.walks.specs.Labels.{Label, Labelling, label_of, Certified, Trail, Right}

pub record RowLaws : Type 0 where
  pub irreflexive : (a : List ℕ) → Less a a → ⊥
  pub transitive : (a b c : List ℕ) → Less a b → Less b c → Less a c
  pub asymmetric : (a b : List ℕ) → Less a b → Less b a → ⊥
  pub total : (a b : List ℕ) → length a ≡ length b → Less a b ⊎ ((a ≡ b) ⊎ Less b a)
  pub kept : (a b c : List ℕ) → Less a b → Less (plus a c) (plus b c)
  pub kept_left : (a b c : List ℕ) → Less a b → Less (plus c a) (plus c b)
  pub never_smaller : (a b : List ℕ) → Less (plus a b) a → ⊥
  pub commutative : (a b : List ℕ) → plus a b ≡ plus b a
  pub associative : (a b c : List ℕ) → plus (plus a b) c ≡ plus a (plus b c)
  pub places : (n : ℕ) (a b : List ℕ) → length a ≡ n → length b ≡ n → length (plus a b) ≡ n

abbrev pub SimplestUnique : Type 0
SimplestUnique = (g : Network) (a z : ℕ) (v w : List ℕ) → Simplest g a z v → Simplest g a z w → v ≡ w

abbrev pub SimplestBegins : Type 0
SimplestBegins =
    (g : Network) → Even g → (a e z : ℕ) (v u : List ℕ) → Simplest g a z (v ++ (e ∷ u)) → Simplest g a e (v ++ (e ∷ []))

abbrev pub AlikeSimplest : Type 0
AlikeSimplest =
    (g h : Network) → Alike g h → (a z : ℕ) (w : List ℕ) → Simplest g a z w
    → Simplest h a z w × (walk_row g w ≡ walk_row h w) × (walk_charge g w ≡ walk_charge h w) × (walk_length g w ≡ walk_length h w)

pub record PushLaws : Type 0 where
  pub row :
      (g : Network) (w : List ℕ) (f : ℕ) → 0 < length w
      → walk_row g (w ++ (f ∷ [])) ≡ plus (walk_row g w) (g.amount (g.charge (final w) f) (g.long f))
  pub charge :
      (g : Network) (w : List ℕ) (f : ℕ) → 0 < length w
      → walk_charge g (w ++ (f ∷ [])) ≡ walk_charge g w + g.charge (final w) f
  pub long : (g : Network) (w : List ℕ) (f : ℕ) → walk_length g (w ++ (f ∷ [])) ≡ walk_length g w + g.long f

abbrev pub CertifiedRight : Type 0
CertifiedRight = (g : Network) (a : ℕ) (L : Labelling) → Even g → Certified g a L → Right g a L

abbrev pub CertifiedTrails : Type 0
CertifiedTrails =
    (g : Network) (a : ℕ) (L : Labelling) → Even g → Certified g a L → (z : ℕ) (x : Label) → L z ≡ Some x
    → (t : List ℕ) × Trail g L z t × Simplest g a z (reverse (z ∷ t)) × (x ≡ label_of g (reverse (z ∷ t)))
