-- The simplest walk is the only one, and its beginnings are simplest.
-- Assumes nothing.
use Rattle.std.proofs.Common.{◌≡◌, ℕ, suc, ◌<◌, ◌⊎◌, List, [], ◌∷◌, ◌++◌, reverse, length, sym, refl, ap, ◌∙◌, subst, subst₂, inl, inr, arith}
use Rattle.std.proofs.lemmas.List.{append_assoc, append_cancel_right, reverse-append, reverse-reverse, length-append}
use Rattle.cost.specs.Rows.{Less, plus}
use Rattle.walks.specs.Networks.{Network, Even, final, walk_row, Precedes, Simplest}
use Rattle.walks.proofs.Order.{less_asym, less_plus, less_from_plus, same_from_plus, ordered_asym}
use Rattle.walks.proofs.Push.{final_push}
use Rattle.walks.proofs.Back.{forth, back_label, BackLess, BackSimplest, forth_final, back_places, back_from_simplest, simplest_from_back}

pub precedes_asym : (g : Network) (v w : List ℕ) → Precedes g v w → Precedes g w v → ⊥
precedes_asym g v w =
    ordered_asym (walk_row g v) (walk_row g w) (length v) (length w) (Less (reverse v) (reverse w))
    (Less (reverse w) (reverse v))
    (less_asym (reverse v) (reverse w))

pub simplest_unique : (g : Network) (a z : ℕ) (v w : List ℕ) → Simplest g a z v → Simplest g a z w → v ≡ w
simplest_unique g a z v w p q = go (p.least w q.leads) (q.least v p.leads)
  where
    go : (w ≡ v) ⊎ Precedes g v w → (v ≡ w) ⊎ Precedes g w v → v ≡ w
    go (inl e) r = sym e
    go (inr l) (inl e) = e
    go (inr l) (inr m) = absurd (precedes_asym g v w l m)

-- walks to e in order give walks over e to z in order, and the other way round
pub back_step : (g : Network) (e z : ℕ) (t s : List ℕ) → BackLess g e t s → BackLess g z (e ∷ t) (e ∷ s)
back_step g e z t s (inl l) =
    inl (less_plus (back_label g e t).row (back_label g e s).row (g.amount (g.charge e z) (g.long z)) l)
back_step g e z t s (inr (p, inl l)) =
    inr (ap (λ r. plus r (g.amount (g.charge e z) (g.long z))) p, inl (omega arith))
back_step g e z t s (inr (p, inr (q, l))) =
    inr (ap (λ r. plus r (g.amount (g.charge e z) (g.long z))) p, inr (ap suc q, inr (refl, l)))

pub back_unstep : (g : Network) → Even g → (e z : ℕ) (t s : List ℕ) → BackLess g z (e ∷ t) (e ∷ s) → BackLess g e t s
back_unstep g even e z t s = go
  where
    places : length (back_label g e t).row ≡ length (back_label g e s).row
    places = back_places g even e t ∙ sym (back_places g even e s)

    same :
        (back_label g z (e ∷ t)).row ≡ (back_label g z (e ∷ s)).row
        → (back_label g e t).row ≡ (back_label g e s).row
    same =
        same_from_plus (back_label g e t).row (back_label g e s).row (g.amount (g.charge e z) (g.long z)) places

    go : BackLess g z (e ∷ t) (e ∷ s) → BackLess g e t s
    go (inl l) =
        inl
        (less_from_plus (back_label g e t).row (back_label g e s).row (g.amount (g.charge e z) (g.long z)) places l)
    go (inr (p, inl l)) = inr (same p, inl (omega arith))
    go (inr (p, inr (q, inl l))) = absurd (omega arith)
    go (inr (p, inr (q, inr l))) = inr (same p, inr (omega arith, l.1))

tail_same : (e : ℕ) (t s : List ℕ) → (e ∷ s) ≡ (e ∷ t) → s ≡ t
tail_same e t s p = ap mathlib.Core.List.tail p

pub back_beginning : (g : Network) → Even g → (a e z : ℕ) (t : List ℕ) → BackSimplest g a z (e ∷ t) → BackSimplest g a e t
back_beginning g even a e z t b =
    record {
      leads = b.leads.2;
      least = λ s h. turn s (b.least (e ∷ s) (b.leads.0, b.leads.1, h));
    }
  where
    turn : (s : List ℕ) → ((e ∷ s) ≡ (e ∷ t)) ⊎ BackLess g z (e ∷ t) (e ∷ s) → (s ≡ t) ⊎ BackLess g e t s
    turn s (inl p) = inl (tail_same e t s p)
    turn s (inr l) = inr (back_unstep g even e z t s l)

pub simplest_beginning :
    (g : Network) → Even g → (a z : ℕ) (w : List ℕ) → 0 < length w → Simplest g a z (w ++ (z ∷ [])) → Simplest g a (final w) w
simplest_beginning g even a z w n h = go (back_from_simplest g even a z (w ++ (z ∷ [])) h)
  where
    go :
        (t : List ℕ) × ((w ++ (z ∷ [])) ≡ forth z t) × BackSimplest g a z t
        → Simplest g a (final w) w
    go ([], p, b) = absurd (omega (arith, ap length p, length-append w (z ∷ [])))
    go (e ∷ t, p, b) =
        let q : w ≡ forth e t = append_cancel_right w (forth e t) (z ∷ []) p in
        let r : e ≡ final w = sym (forth_final e t) ∙ ap final (sym q) in
        subst₂ (Simplest g a) r (sym q) (simplest_from_back g even a e t (back_beginning g even a e z t b))

-- the route to any edge on a route is the beginning of that route
on_the_way :
    (g : Network) → Even g → (a e : ℕ) (v r : List ℕ) (z : ℕ) → Simplest g a z (v ++ (e ∷ reverse r)) → Simplest g a e (v ++ (e ∷ []))
on_the_way g even a e v [] z h =
    let p : e ≡ z = sym (final_push v e) ∙ h.leads.2 in
    subst (λ d. Simplest g a d (v ++ (e ∷ []))) (sym p) h
on_the_way g even a e v (x ∷ r) z h =
    let p : (v ++ (e ∷ reverse (x ∷ r))) ≡ ((v ++ (e ∷ reverse r)) ++ (x ∷ [])) =
    ap (λ u. v ++ (e ∷ u)) (reverse-append (x ∷ []) r) ∙ sym (append_assoc v (e ∷ reverse r) (x ∷ []))
    in
    let q : z ≡ x = sym h.leads.2 ∙ ap final p ∙ final_push (v ++ (e ∷ reverse r)) x in
    let n : 0 < length (v ++ (e ∷ reverse r)) = omega (arith, length-append v (e ∷ reverse r)) in
    on_the_way g even a e v r (final (v ++ (e ∷ reverse r)))
    (simplest_beginning g even a x (v ++ (e ∷ reverse r)) n (subst₂ (Simplest g a) q p h))

pub simplest_on_the_way :
    (g : Network) → Even g → (a e z : ℕ) (v u : List ℕ) → Simplest g a z (v ++ (e ∷ u)) → Simplest g a e (v ++ (e ∷ []))
simplest_on_the_way g even a e z v u h =
    on_the_way g even a e v (reverse u) z (subst (λ r. Simplest g a z (v ++ (e ∷ r))) (sym (reverse-reverse u)) h)
