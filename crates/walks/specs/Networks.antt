-- Networks of edges and steps, walks over them, and which walk is simplest.
--
-- Glossary
--   Network            what a question is asked over: edges by their numbers from 0, which of them are open, the steps between them, their lengths,
--                      the charge of each step, and the amounts that a charge and a length add to a cost
--   Usable g e         the edge e is drawn and open
--   Step g e f         a step leads from the edge e to the edge f
--   Even g             every amount has as many places as the network says
--   Walk g w           w is one or more usable edges, in walking order, in which each neighbouring pair is a step; an edge may recur
--   first w, final w   the first and the last edge of w
--   Leads g a z w      w is a walk from the edge a to the edge z
--   onward_row g e w   the cost that the edges of w add after the edge e
--   walk_row g w       the cost of w: charge 0 with the first edge's length, then for each step its charge with the length of the edge entered, added place by place
--   walk_charge g w    the sum of the charges of the steps of w
--   walk_length g w    the sum of the lengths of the edges of w
--   Precedes g v w     v comes before w: it is cheaper; or as cheap with fewer edges; or as cheap and as long and, read from the last edge
--                      backwards, it has the lower edge number at the first difference
--   Simplest g a z w   w is a walk from a to z, and every walk from a to z is w or comes after w
--   Alike g h          the networks g and h agree on all that a walk can meet: the drawn edges and which are open, the steps between usable edges,
--                      their lengths and charges, and the amounts
-- Assumes nothing.
use Rattle.std.specs.Prelude.{◌≡◌, ℕ, ◌+◌, ◌<◌, Bool, true, ◌⊎◌, List, [], ◌∷◌, reverse, length}
use Rattle.cost.specs.Rows.{Less, plus, zeros}

pub record Network : Type 0 where
  pub edges : ℕ
  pub unshut : ℕ → Bool
  pub joined : ℕ → ℕ → Bool
  pub long : ℕ → ℕ
  pub places : ℕ
  pub charge : ℕ → ℕ → ℕ
  pub amount : ℕ → ℕ → List ℕ

abbrev pub Usable : Network → ℕ → Type 0
Usable g e = (e < g.edges) × (g.unshut e ≡ true)

abbrev pub Step : Network → ℕ → ℕ → Type 0
Step g e f = g.joined e f ≡ true

abbrev pub Even : Network → Type 0
Even g = (c l : ℕ) → length (g.amount c l) ≡ g.places

abbrev pub Walk : Network → List ℕ → Type 0
Walk g [] = ⊥
Walk g (e ∷ []) = Usable g e
Walk g (e ∷ (f ∷ w)) = Usable g e × Step g e f × Walk g (f ∷ w)

abbrev pub first : List ℕ → ℕ
first [] = 0
first (e ∷ w) = e

abbrev pub final : List ℕ → ℕ
final [] = 0
final (e ∷ []) = e
final (e ∷ (f ∷ w)) = final (f ∷ w)

abbrev pub Leads : Network → ℕ → ℕ → List ℕ → Type 0
Leads g a z w = Walk g w × (first w ≡ a) × (final w ≡ z)

abbrev pub onward_row : Network → ℕ → List ℕ → List ℕ
onward_row g e [] = zeros g.places
onward_row g e (f ∷ w) = plus (g.amount (g.charge e f) (g.long f)) (onward_row g f w)

abbrev pub walk_row : Network → List ℕ → List ℕ
walk_row g [] = zeros g.places
walk_row g (e ∷ w) = plus (g.amount 0 (g.long e)) (onward_row g e w)

abbrev pub walk_charge : Network → List ℕ → ℕ
walk_charge g [] = 0
walk_charge g (e ∷ []) = 0
walk_charge g (e ∷ (f ∷ w)) = g.charge e f + walk_charge g (f ∷ w)

abbrev pub walk_length : Network → List ℕ → ℕ
walk_length g [] = 0
walk_length g (e ∷ w) = g.long e + walk_length g w

abbrev pub Precedes : Network → List ℕ → List ℕ → Type 0
Precedes g v w =
    Less (walk_row g v) (walk_row g w)
    ⊎ ((walk_row g v ≡ walk_row g w)
    × ((length v < length w) ⊎ ((length v ≡ length w) × Less (reverse v) (reverse w))))

pub record Simplest (g : Network) (a z : ℕ) (w : List ℕ) : Type 0 where
  pub leads : Leads g a z w
  pub least : (v : List ℕ) → Leads g a z v → (v ≡ w) ⊎ Precedes g w v

pub record Alike (g h : Network) : Type 0 where
  pub edges : g.edges ≡ h.edges
  pub unshut : (e : ℕ) → e < g.edges → g.unshut e ≡ h.unshut e
  pub joined : (e f : ℕ) → Usable g e → Usable g f → g.joined e f ≡ h.joined e f
  pub long : (e : ℕ) → Usable g e → g.long e ≡ h.long e
  pub places : g.places ≡ h.places
  pub charge : (e f : ℕ) → Usable g e → Usable g f → Step g e f → g.charge e f ≡ h.charge e f
  pub amount : (c l : ℕ) → g.amount c l ≡ h.amount c l
