-- A walk read backwards: its last edge z and the list t of the edges before it, the last of them first. Every induction over walks is on t.
-- The link to walks in walking order is made here, costs and the tie rule included.
-- Assumes nothing.
use Rattle.std.proofs.Common.{◌≡◌, ℕ, suc, ◌+◌, ◌<◌, ◌⊎◌, List, [], ◌∷◌, ◌++◌, reverse, length, sym, refl, ap, ◌∙◌, subst, ap₂, subst₂, inl, inr, arith}
use Rattle.std.proofs.lemmas.List.{reverse-append, reverse-reverse, length-append}
use Rattle.cost.specs.Rows.{Less, plus}
use Rattle.walks.specs.Networks.{Network, Usable, Step, Even, Walk, first, final, Leads, walk_row, walk_charge, walk_length, Precedes, Simplest}
use Rattle.walks.specs.Labels.{Label, before_last, label_of, first_label, extension}
use Rattle.walks.proofs.Order.{length-plus}
use Rattle.walks.proofs.Push.{first_push, final_push, before_last_push, walk_push, walk_from_push, row_push, row_one, charge_push, length_push}

-- z, reached from a over the edges of t
abbrev pub Back : Network → ℕ → ℕ → List ℕ → Type 0
Back g a z [] = Usable g z × (z ≡ a)
Back g a z (e ∷ t) = Usable g z × Step g e z × Back g a e t

-- the walk in walking order
abbrev pub forth : ℕ → List ℕ → List ℕ
forth z [] = z ∷ []
forth z (e ∷ t) = forth e t ++ (z ∷ [])

abbrev pub back_label : Network → ℕ → List ℕ → Label
back_label g z [] = first_label g z
back_label g z (e ∷ t) = extension g (back_label g e t) e z

abbrev pub BackLess : Network → ℕ → List ℕ → List ℕ → Type 0
BackLess g z t s =
    Less (back_label g z t).row (back_label g z s).row
    ⊎ (((back_label g z t).row ≡ (back_label g z s).row) × ((length t < length s) ⊎ ((length t ≡ length s) × Less t s)))

pub record BackSimplest (g : Network) (a z : ℕ) (t : List ℕ) : Type 0 where
  pub leads : Back g a z t
  pub least : (s : List ℕ) → Back g a z s → (s ≡ t) ⊎ BackLess g z t s

pub forth_length : (z : ℕ) (t : List ℕ) → length (forth z t) ≡ suc (length t)
forth_length z [] = refl
forth_length z (e ∷ t) = let h = forth_length e t in length-append (forth e t) (z ∷ []) ∙ omega arith

pub forth_filled : (z : ℕ) (t : List ℕ) → 0 < length (forth z t)
forth_filled z t = omega (arith, forth_length z t)

pub forth_reverse : (z : ℕ) (t : List ℕ) → forth z t ≡ reverse (z ∷ t)
forth_reverse z [] = refl
forth_reverse z (e ∷ t) = ap (λ w. w ++ (z ∷ [])) (forth_reverse e t) ∙ sym (reverse-append (z ∷ []) (e ∷ t))

pub reverse_forth : (z : ℕ) (t : List ℕ) → reverse (forth z t) ≡ z ∷ t
reverse_forth z t = ap reverse (forth_reverse z t) ∙ reverse-reverse (z ∷ t)

pub forth_final : (z : ℕ) (t : List ℕ) → final (forth z t) ≡ z
forth_final z [] = refl
forth_final z (e ∷ t) = final_push (forth e t) z

pub forth_before_last : (z e : ℕ) (t : List ℕ) → before_last (forth z (e ∷ t)) ≡ e
forth_before_last z e t = before_last_push (forth e t) z (forth_filled e t) ∙ forth_final e t

pub forth_row : (g : Network) → Even g → (z : ℕ) (t : List ℕ) → walk_row g (forth z t) ≡ (back_label g z t).row
forth_row g even z [] = row_one g even z
forth_row g even z (e ∷ t) =
    row_push g (forth e t) z (forth_filled e t)
    ∙ ap₂ (λ r d. plus r (g.amount (g.charge d z) (g.long z))) (forth_row g even e t) (forth_final e t)

pub forth_charge :
    (g : Network) (z e : ℕ) (t : List ℕ) → walk_charge g (forth z (e ∷ t)) ≡ walk_charge g (forth e t) + g.charge e z
forth_charge g z e t =
    charge_push g (forth e t) z (forth_filled e t) ∙ ap (λ d. walk_charge g (forth e t) + g.charge d z) (forth_final e t)

pub forth_long : (g : Network) (z e : ℕ) (t : List ℕ) → walk_length g (forth z (e ∷ t)) ≡ walk_length g (forth e t) + g.long z
forth_long g z e t = length_push g (forth e t) z

pub reverse_charge :
    (g : Network) (z e : ℕ) (t : List ℕ) → walk_charge g (reverse (z ∷ (e ∷ t))) ≡ walk_charge g (reverse (e ∷ t)) + g.charge e z
reverse_charge g z e t =
    ap (walk_charge g) (sym (forth_reverse z (e ∷ t))) ∙ forth_charge g z e t
    ∙ ap (λ w. walk_charge g w + g.charge e z) (forth_reverse e t)

pub reverse_long :
    (g : Network) (z e : ℕ) (t : List ℕ) → walk_length g (reverse (z ∷ (e ∷ t))) ≡ walk_length g (reverse (e ∷ t)) + g.long z
reverse_long g z e t =
    ap (walk_length g) (sym (forth_reverse z (e ∷ t))) ∙ forth_long g z e t
    ∙ ap (λ w. walk_length g w + g.long z) (forth_reverse e t)

pub back_edges : (g : Network) (z : ℕ) (t : List ℕ) → (back_label g z t).edges ≡ suc (length t)
back_edges g z [] = refl
back_edges g z (e ∷ t) = let h = back_edges g e t in omega arith

pub back_places : (g : Network) → Even g → (z : ℕ) (t : List ℕ) → length (back_label g z t).row ≡ g.places
back_places g even z [] = even 0 (g.long z)
back_places g even z (e ∷ t) =
    length-plus g.places (back_label g e t).row (g.amount (g.charge e z) (g.long z)) (back_places g even e t)
    (even (g.charge e z) (g.long z))

pub label_from_parts : (x y : Label) → x.row ≡ y.row → x.edges ≡ y.edges → x.previous ≡ y.previous → x ≡ y
label_from_parts x y p q r = λ i. record { row = p i; edges = q i; previous = r i }

back_previous : (g : Network) (z : ℕ) (t : List ℕ) → (back_label g z t).previous ≡ before_last (forth z t)
back_previous g z [] = refl
back_previous g z (e ∷ t) = sym (forth_before_last z e t)

pub back_label_of : (g : Network) → Even g → (z : ℕ) (t : List ℕ) → back_label g z t ≡ label_of g (forth z t)
back_label_of g even z t =
    label_from_parts (back_label g z t) (label_of g (forth z t)) (sym (forth_row g even z t))
    (back_edges g z t ∙ sym (forth_length z t))
    (back_previous g z t)

pub back_leads : (g : Network) (a z : ℕ) (t : List ℕ) → Back g a z t → Leads g a z (forth z t)
back_leads g a z [] p = (p.0, p.1, refl)
back_leads g a z (e ∷ t) p =
    let h = back_leads g a e t p.2 in (
      walk_push g (forth e t) z h.0 (subst (λ d. Step g d z) (sym h.2) p.1) p.0,
      first_push (forth e t) z (forth_filled e t) ∙ h.1,
      final_push (forth e t) z,
    )

walk_back : (g : Network) (z : ℕ) (t : List ℕ) → Walk g (forth z t) → Back g (first (forth z t)) z t
walk_back g z [] p = (p, refl)
walk_back g z (e ∷ t) p =
    let h = walk_from_push g (forth e t) z (forth_filled e t) p in (
      h.2,
      subst (λ d. Step g d z) (forth_final e t) h.1,
      subst (λ a. Back g a e t) (sym (first_push (forth e t) z (forth_filled e t))) (walk_back g e t h.0),
    )

filled_forth : (w : List ℕ) → 0 < length w → (z : ℕ) × (t : List ℕ) × (w ≡ forth z t)
filled_forth w n = go (reverse w) refl
  where
    go : (r : List ℕ) → reverse w ≡ r → (z : ℕ) × (t : List ℕ) × (w ≡ forth z t)
    go [] e =
        let h : w ≡ [] = sym (reverse-reverse w) ∙ ap reverse e in
        absurd (omega (arith, ap length h))
    go (z ∷ t) e = (z, t, sym (reverse-reverse w) ∙ ap reverse e ∙ sym (forth_reverse z t))

pub leads_back : (g : Network) (a z : ℕ) (w : List ℕ) → Leads g a z w → (t : List ℕ) × (w ≡ forth z t) × Back g a z t
leads_back g a z [] p = absurd p.0
leads_back g a z (e ∷ w) p = go (filled_forth (e ∷ w) (omega arith))
  where
    go : (y : ℕ) × (t : List ℕ) × ((e ∷ w) ≡ forth y t) → (t : List ℕ) × ((e ∷ w) ≡ forth z t) × Back g a z t
    go (y, t, q) =
        let s : y ≡ z = sym (forth_final y t) ∙ ap final (sym q) ∙ p.2 in
        let b : Back g (first (forth y t)) y t = walk_back g y t (subst (Walk g) q p.0) in
        let f : first (forth y t) ≡ a = ap first (sym q) ∙ p.1 in
        (t, q ∙ ap (λ d. forth d t) s, subst₂ (λ c d. Back g c d t) f s b)

pub forth_same : (z : ℕ) (t s : List ℕ) → forth z t ≡ forth z s → t ≡ s
forth_same z t s p =
    let q : (z ∷ t) ≡ (z ∷ s) = sym (reverse_forth z t) ∙ ap reverse p ∙ reverse_forth z s in
    ap mathlib.Core.List.tail q

pub precedes_back : (g : Network) → Even g → (z : ℕ) (t s : List ℕ) → Precedes g (forth z t) (forth z s) → BackLess g z t s
precedes_back g even z t s = go
  where
    tied : Less (z ∷ t) (z ∷ s) → Less t s
    tied (inl l) = absurd (omega arith)
    tied (inr p) = p.1

    go : Precedes g (forth z t) (forth z s) → BackLess g z t s
    go (inl l) = inl (subst₂ Less (forth_row g even z t) (forth_row g even z s) l)
    go (inr (p, inl l)) =
        inr (sym (forth_row g even z t) ∙ p ∙ forth_row g even z s, inl (omega (arith, forth_length z t, forth_length z s)))
    go (inr (p, inr (l, m))) =
        inr (
          sym (forth_row g even z t) ∙ p ∙ forth_row g even z s,
          inr (omega (arith, forth_length z t, forth_length z s), tied (subst₂ Less (reverse_forth z t) (reverse_forth z s) m)),
        )

pub back_precedes : (g : Network) → Even g → (z : ℕ) (t s : List ℕ) → BackLess g z t s → Precedes g (forth z t) (forth z s)
back_precedes g even z t s = go
  where
    go : BackLess g z t s → Precedes g (forth z t) (forth z s)
    go (inl l) = inl (subst₂ Less (sym (forth_row g even z t)) (sym (forth_row g even z s)) l)
    go (inr (p, inl l)) =
        inr (forth_row g even z t ∙ p ∙ sym (forth_row g even z s), inl (omega (arith, forth_length z t, forth_length z s)))
    go (inr (p, inr (l, m))) =
        let n : Less (z ∷ t) (z ∷ s) = inr (refl, m) in
        inr (
          forth_row g even z t ∙ p ∙ sym (forth_row g even z s),
          inr (
            omega (arith, forth_length z t, forth_length z s),
            subst₂ Less (sym (reverse_forth z t)) (sym (reverse_forth z s)) n,
          ),
        )

pub simplest_from_back : (g : Network) → Even g → (a z : ℕ) (t : List ℕ) → BackSimplest g a z t → Simplest g a z (forth z t)
simplest_from_back g even a z t b =
    record { leads = back_leads g a z t b.leads; least = λ v l. go v (leads_back g a z v l) }
  where
    turn : (s : List ℕ) → (s ≡ t) ⊎ BackLess g z t s → (forth z s ≡ forth z t) ⊎ Precedes g (forth z t) (forth z s)
    turn s (inl e) = inl (ap (forth z) e)
    turn s (inr l) = inr (back_precedes g even z t s l)

    go : (v : List ℕ) → (s : List ℕ) × (v ≡ forth z s) × Back g a z s → (v ≡ forth z t) ⊎ Precedes g (forth z t) v
    go v (s, e, h) =
        subst (λ u. (u ≡ forth z t) ⊎ Precedes g (forth z t) u) (sym e) (turn s (b.least s h))

pub back_from_simplest :
    (g : Network) → Even g → (a z : ℕ) (w : List ℕ) → Simplest g a z w → (t : List ℕ) × (w ≡ forth z t) × BackSimplest g a z t
back_from_simplest g even a z w h = go (leads_back g a z w h.leads)
  where
    turn : (t s : List ℕ) → w ≡ forth z t → (forth z s ≡ w) ⊎ Precedes g w (forth z s) → (s ≡ t) ⊎ BackLess g z t s
    turn t s e (inl p) = inl (forth_same z s t (p ∙ e))
    turn t s e (inr l) = inr (precedes_back g even z t s (subst (λ u. Precedes g u (forth z s)) e l))

    go :
        (t : List ℕ) × (w ≡ forth z t) × Back g a z t
        → (t : List ℕ) × (w ≡ forth z t) × BackSimplest g a z t
    go (t, e, b) =
        (t, e, record { leads = b; least = λ s l. turn t s e (h.least (forth z s) (back_leads g a z s l)) })
