-- Labels: what is kept for each edge, and when a labelling is right.
--
-- Glossary
--   Label                 the cost of a walk (its row), its number of edges and the edge before its last
--   none                  the previous edge of a walk of one edge: 65,535, which is no edge's number where at most 65,535 edges are drawn
--   Labelling             a label, or none, for each edge
--   before_last w         the edge before the last of w, or none
--   label_of g w          the label that belongs to the walk w
--   first_label g a       the label of the first edge a of a question: the walk is that edge alone
--   extension g x e f     the label of f got by a step from e, where x is the label of e
--   KeyLess x y           x is cheaper than y, or as cheap with fewer edges
--   KeyAtMost x y         x is cheaper than y, or as cheap with no more edges
--   LabelLess x y         x is cheaper than y; or as cheap with fewer edges; or as cheap and as long with the lower previous edge
--   AtMost x y            x is y or LabelLess than y
--   Relaxed g L x e f     f has a label which is at most the extension by a step from e, where x is the label of e
--   Entered g L e f y     the label y of f is the extension of the label of e by a step to the usable edge f
--   Certified g a L       the first edge a is labelled as such if it is usable, and else no edge is; every step from a labelled edge to a usable one is relaxed;
--                         every labelled edge other than a is entered from a labelled one
--   Trail g L z t         t are the edges that are met, the last first, when the previous edges of the labels are followed back from z
--   Right g a L           every labelled edge has the label of the simplest walk to it, and no walk leads to an edge without a label
-- Assumes nothing.
use Rattle.std.specs.Prelude.{◌≡◌, ℕ, ◌+◌, ◌<◌, ◌≤◌, ◌⊎◌, List, [], ◌∷◌, length, Some, None, Option, ◌≢◌}
use Rattle.cost.specs.Rows.{Less, plus}
use Rattle.walks.specs.Networks.{Network, Usable, Step, Leads, walk_row, Simplest}

pub record Label : Type 0 where
  pub row : List ℕ
  pub edges : ℕ
  pub previous : ℕ

abbrev pub none : ℕ
none = 65535

abbrev pub Labelling : Type 0
Labelling = ℕ → Option Label

abbrev pub before_last : List ℕ → ℕ
before_last [] = none
before_last (e ∷ []) = none
before_last (e ∷ (f ∷ [])) = e
before_last (e ∷ (f ∷ (h ∷ w))) = before_last (f ∷ (h ∷ w))

abbrev pub label_of : Network → List ℕ → Label
label_of g w = record { row = walk_row g w; edges = length w; previous = before_last w }

abbrev pub first_label : Network → ℕ → Label
first_label g a = record { row = g.amount 0 (g.long a); edges = 1; previous = none }

abbrev pub extension : Network → Label → ℕ → ℕ → Label
extension g x e f = record { row = plus x.row (g.amount (g.charge e f) (g.long f)); edges = x.edges + 1; previous = e }

abbrev pub KeyLess : Label → Label → Type 0
KeyLess x y = Less x.row y.row ⊎ ((x.row ≡ y.row) × (x.edges < y.edges))

abbrev pub KeyAtMost : Label → Label → Type 0
KeyAtMost x y = Less x.row y.row ⊎ ((x.row ≡ y.row) × (x.edges ≤ y.edges))

abbrev pub LabelLess : Label → Label → Type 0
LabelLess x y =
    Less x.row y.row
    ⊎ ((x.row ≡ y.row) × ((x.edges < y.edges) ⊎ ((x.edges ≡ y.edges) × (x.previous < y.previous))))

abbrev pub AtMost : Label → Label → Type 0
AtMost x y = (x ≡ y) ⊎ LabelLess x y

pub record Relaxed (g : Network) (L : Labelling) (x : Label) (e f : ℕ) : Type 0 where
  pub label : Label
  pub labelled : L f ≡ Some label
  pub bound : AtMost label (extension g x e f)

pub record Entered (g : Network) (L : Labelling) (e f : ℕ) (y : Label) : Type 0 where
  pub usable : Usable g f
  pub step : Step g e f
  pub label : Label
  pub labelled : L e ≡ Some label
  pub value : y ≡ extension g label e f

pub record Certified (g : Network) (a : ℕ) (L : Labelling) : Type 0 where
  pub first : Usable g a → L a ≡ Some (first_label g a)
  pub shut : (Usable g a → ⊥) → (e : ℕ) → L e ≡ None
  pub closed : (e f : ℕ) (x : Label) → L e ≡ Some x → Usable g f → Step g e f → Relaxed g L x e f
  pub entered : (f : ℕ) (y : Label) → L f ≡ Some y → (f ≢ a) → (e : ℕ) × Entered g L e f y

abbrev pub Trail : Network → Labelling → ℕ → List ℕ → Type 0
Trail g L z [] = Usable g z × (L z ≡ Some (first_label g z))
Trail g L z (e ∷ t) = Usable g z × Step g e z × (x : Label) × (L e ≡ Some x) × (L z ≡ Some (extension g x e z)) × Trail g L e t

pub record Right (g : Network) (a : ℕ) (L : Labelling) : Type 0 where
  pub labelled : (z : ℕ) (x : Label) → L z ≡ Some x → (w : List ℕ) × Simplest g a z w × (x ≡ label_of g w)
  pub unlabelled : (z : ℕ) → L z ≡ None → (w : List ℕ) → Leads g a z w → ⊥
