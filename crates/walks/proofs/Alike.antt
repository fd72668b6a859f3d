-- Networks that agree on all that a walk can meet have the same walks, costs and simplest walks.
-- Assumes nothing.
use Rattle.std.proofs.Common.{◌≡◌, ℕ, ◌+◌, ◌<◌, ◌⊎◌, List, [], ◌∷◌, sym, refl, ap, ◌∙◌, subst, ap₂, subst₂, inl, inr}
use Rattle.cost.specs.Rows.{Less, plus, zeros}
use Rattle.walks.specs.Networks.{Network, Usable, Walk, Leads, onward_row, walk_row, walk_charge, walk_length, Precedes, Simplest, Alike}

pub usable_alike : (g h : Network) → Alike g h → (e : ℕ) → Usable g e → Usable h e
usable_alike g h s e u = (subst (λ n. e < n) s.edges u.0, sym (s.unshut e u.0) ∙ u.1)

usable_back : (g h : Network) → Alike g h → (e : ℕ) → Usable h e → Usable g e
usable_back g h s e u =
    let l : e < g.edges = subst (λ n. e < n) (sym s.edges) u.0 in
    (l, s.unshut e l ∙ u.1)

pub alike_sym : (g h : Network) → Alike g h → Alike h g
alike_sym g h s =
    record {
      edges = sym s.edges;
      unshut = λ e l. sym (s.unshut e (subst (λ n. e < n) (sym s.edges) l));
      joined = λ e f u v. sym (s.joined e f (usable_back g h s e u) (usable_back g h s f v));
      long = λ e u. sym (s.long e (usable_back g h s e u));
      places = sym s.places;
      charge =
          λ e f u v t.
          let a = usable_back g h s e u in
          let b = usable_back g h s f v in
          sym (s.charge e f a b (s.joined e f a b ∙ t));
      amount = λ c l. sym (s.amount c l);
    }

front : (g : Network) (e : ℕ) (w : List ℕ) → Walk g (e ∷ w) → Usable g e
front g e [] p = p
front g e (f ∷ w) p = p.0

pub walk_alike : (g h : Network) → Alike g h → (w : List ℕ) → Walk g w → Walk h w
walk_alike g h s [] p = p
walk_alike g h s (e ∷ []) p = usable_alike g h s e p
walk_alike g h s (e ∷ (f ∷ w)) p = (
  usable_alike g h s e p.0,
  sym (s.joined e f p.0 (front g f w p.2)) ∙ p.1,
  walk_alike g h s (f ∷ w) p.2,
)

onward_alike : (g h : Network) → Alike g h → (e : ℕ) (w : List ℕ) → Walk g (e ∷ w) → onward_row g e w ≡ onward_row h e w
onward_alike g h s e [] p = ap zeros s.places
onward_alike g h s e (f ∷ w) p =
    let u = front g f w p.2 in
    ap₂ plus
    (ap₂ g.amount (s.charge e f p.0 u p.1) (s.long f u) ∙ s.amount (h.charge e f) (h.long f))
    (onward_alike g h s f w p.2)

pub row_alike : (g h : Network) → Alike g h → (w : List ℕ) → Walk g w → walk_row g w ≡ walk_row h w
row_alike g h s [] p = absurd p
row_alike g h s (e ∷ w) p =
    ap₂ plus
    (ap (g.amount 0) (s.long e (front g e w p)) ∙ s.amount 0 (h.long e))
    (onward_alike g h s e w p)

pub charge_alike : (g h : Network) → Alike g h → (w : List ℕ) → Walk g w → walk_charge g w ≡ walk_charge h w
charge_alike g h s [] p = refl
charge_alike g h s (e ∷ []) p = refl
charge_alike g h s (e ∷ (f ∷ w)) p =
    ap₂ ◌+◌ (s.charge e f p.0 (front g f w p.2) p.1) (charge_alike g h s (f ∷ w) p.2)

pub length_alike : (g h : Network) → Alike g h → (w : List ℕ) → Walk g w → walk_length g w ≡ walk_length h w
length_alike g h s [] p = absurd p
length_alike g h s (e ∷ []) p = ap (λ n. n + 0) (s.long e p)
length_alike g h s (e ∷ (f ∷ w)) p = ap₂ ◌+◌ (s.long e p.0) (length_alike g h s (f ∷ w) p.2)

pub leads_alike : (g h : Network) → Alike g h → (a z : ℕ) (w : List ℕ) → Leads g a z w → Leads h a z w
leads_alike g h s a z w l = (walk_alike g h s w l.0, l.1, l.2)

precedes_alike : (g h : Network) → Alike g h → (v w : List ℕ) → Walk g v → Walk g w → Precedes g v w → Precedes h v w
precedes_alike g h s v w p q (inl l) = inl (subst₂ Less (row_alike g h s v p) (row_alike g h s w q) l)
precedes_alike g h s v w p q (inr (e, t)) = inr (sym (row_alike g h s v p) ∙ e ∙ row_alike g h s w q, t)

pub simplest_alike : (g h : Network) → Alike g h → (a z : ℕ) (w : List ℕ) → Simplest g a z w → Simplest h a z w
simplest_alike g h s a z w m =
    record { leads = leads_alike g h s a z w m.leads; least = λ v l. go v (leads_alike h g (alike_sym g h s) a z v l) }
  where
    turn : (v : List ℕ) → Walk g v → (v ≡ w) ⊎ Precedes g w v → (v ≡ w) ⊎ Precedes h w v
    turn v p (inl e) = inl e
    turn v p (inr l) = inr (precedes_alike g h s w v m.leads.0 p l)

    go : (v : List ℕ) → Leads g a z v → (v ≡ w) ⊎ Precedes h w v
    go v l = turn v l.0 (m.least v l)

pub alike_agree :
    (g h : Network) → Alike g h → (a z : ℕ) (w : List ℕ) → Simplest g a z w
    → Simplest h a z w × (walk_row g w ≡ walk_row h w) × (walk_charge g w ≡ walk_charge h w) × (walk_length g w ≡ walk_length h w)
alike_agree g h s a z w m =
    let p = m.leads.0 in
    (simplest_alike g h s a z w m, row_alike g h s w p, charge_alike g h s w p, length_alike g h s w p)
