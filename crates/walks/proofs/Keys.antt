-- The order of labels, and that an extension comes after what it extends.
-- Assumes nothing.
use Rattle.std.proofs.Common.{◌≡◌, ℕ, ◌<◌, ◌⊎◌, length, sym, refl, ◌∙◌, subst, inl, inr, arith}
use Rattle.cost.specs.Rows.{Less}
use Rattle.walks.specs.Networks.{Network, Even}
use Rattle.walks.specs.Labels.{Label, extension, KeyLess, KeyAtMost, LabelLess, AtMost}
use Rattle.walks.proofs.Order.{less_trans, ordered_trans, ordered_asym, plus_above, length-plus}

pub label_less_trans : (x y z : Label) → LabelLess x y → LabelLess y z → LabelLess x z
label_less_trans x y z =
    ordered_trans x.row y.row z.row x.edges y.edges z.edges (x.previous < y.previous)
    (y.previous < z.previous) (x.previous < z.previous)
    (λ p q. omega arith)

pub label_less_asym : (x y : Label) → LabelLess x y → LabelLess y x → ⊥
label_less_asym x y =
    ordered_asym x.row y.row x.edges y.edges (x.previous < y.previous) (y.previous < x.previous)
    (λ p q. omega arith)

pub less_at_most : (x y z : Label) → LabelLess x y → AtMost y z → LabelLess x z
less_at_most x y z l (inl p) = subst (LabelLess x) p l
less_at_most x y z l (inr m) = label_less_trans x y z l m

pub key_refl : (x : Label) → KeyAtMost x x
key_refl x = inr (refl, omega arith)

pub key_before_lem : (x y z : Label) → KeyAtMost x y → KeyLess y z → KeyLess x z
key_before_lem x y z (inl l) (inl m) = inl (less_trans x.row y.row z.row l m)
key_before_lem x y z (inl l) (inr q) = inl (subst (Less x.row) q.0 l)
key_before_lem x y z (inr p) (inl m) = inl (subst (λ r. Less r z.row) (sym p.0) m)
key_before_lem x y z (inr p) (inr q) = inr (p.0 ∙ q.0, omega arith)

pub key_at_most : (x y : Label) → KeyLess x y → KeyAtMost x y
key_at_most x y (inl l) = inl l
key_at_most x y (inr p) = inr (p.0, omega arith)

pub key_label : (x y : Label) → KeyLess x y → LabelLess x y
key_label x y (inl l) = inl l
key_label x y (inr p) = inr (p.0, inl p.1)

pub key_extension : (g : Network) → Even g → (x : Label) (e f : ℕ) → length x.row ≡ g.places → KeyLess x (extension g x e f)
key_extension g even x e f p =
    go (plus_above g.places x.row (g.amount (g.charge e f) (g.long f)) p (even (g.charge e f) (g.long f)))
  where
    go :
        (x.row ≡ (extension g x e f).row) ⊎ Less x.row (extension g x e f).row
        → KeyLess x (extension g x e f)
    go (inl q) = inr (q, omega arith)
    go (inr l) = inl l

pub extension_places : (g : Network) → Even g → (x : Label) (e f : ℕ) → length x.row ≡ g.places → length (extension g x e f).row ≡ g.places
extension_places g even x e f p =
    length-plus g.places x.row (g.amount (g.charge e f) (g.long f)) p (even (g.charge e f) (g.long f))
