-- A certified labelling is right: each label is that of the simplest walk, which the previous edges lead back over.
-- Assumes nothing.
use Rattle.std.proofs.Common.{◌≡◌, ℕ, zero, suc, ◌+◌, ◌<◌, ◌≤◌, true, false, ◌⊎◌, List, [], ◌∷◌, reverse, length, Some, None, Option, sym, refl, ap, ◌∙◌, subst, inl, inr, arith}
use Rattle.std.proofs.lemmas.Bool.{cases_eq, cases_lt, cases_Bool, both_ways}
use Rattle.cost.specs.Rows.{Less}
use Rattle.walks.specs.Networks.{Network, Usable, Step, Even, Simplest}
use Rattle.walks.specs.Labels.{Label, Labelling, none, label_of, first_label, extension, LabelLess, AtMost, Certified, Trail, Right}
use Rattle.walks.proofs.Order.{less_trans, ordered_trans}
use Rattle.walks.proofs.Back.{Back, forth, back_label, BackLess, BackSimplest, forth_reverse, back_edges, back_label_of, leads_back, simplest_from_back}
use Rattle.walks.proofs.Options.{some_only, none_not_some}
use Rattle.walks.proofs.Routes.{back_step, simplest_unique}

pub usable_or_not : (g : Network) (e : ℕ) → Usable g e ⊎ (Usable g e → ⊥)
usable_or_not g e = go (cases_lt e g.edges) (cases_Bool (g.unshut e))
  where
    go :
        (e < g.edges) ⊎ (g.edges ≤ e) → (g.unshut e ≡ true) ⊎ (g.unshut e ≡ false)
        → Usable g e ⊎ (Usable g e → ⊥)
    go (inl l) (inl o) = inl (l, o)
    go (inl l) (inr o) = inr (λ u. both_ways (g.unshut e) o u.1)
    go (inr l) o = inr (λ u. omega arith)

-- a trail leads to the label of its walk
pub trail_label : (g : Network) (L : Labelling) (z : ℕ) (t : List ℕ) → Trail g L z t → L z ≡ Some (back_label g z t)
trail_label g L z [] h = h.1
trail_label g L z (e ∷ t) h =
    let p : h.2 ≡ back_label g e t = some_only h.3 (trail_label g L e t h.5) in
    h.4 ∙ ap (λ x. Some (extension g x e z)) p

pub trail_usable : (g : Network) (L : Labelling) (z : ℕ) (t : List ℕ) → Trail g L z t → Usable g z
trail_usable g L z [] h = h.0
trail_usable g L z (e ∷ t) h = h.0

pub trail_edges : (g : Network) (L : Labelling) (z : ℕ) (t : List ℕ) (x : Label) → Trail g L z t → L z ≡ Some x → x.edges ≡ length t + 1
trail_edges g L z t x h p =
    omega (arith, ap (λ y. y.edges) (some_only p (trail_label g L z t h)), back_edges g z t)

-- a label of one edge ends its trail, and any other has the next edge of it
pub trail_end : (g : Network) (L : Labelling) (z : ℕ) (t : List ℕ) (x : Label) → Trail g L z t → L z ≡ Some x → x.edges ≡ 1 → t ≡ []
trail_end g L z [] x h p q = refl
trail_end g L z (e ∷ t) x h p q = absurd (omega (arith, trail_edges g L z (e ∷ t) x h p))

pub trail_end_previous :
    (g : Network) (L : Labelling) (z : ℕ) (t : List ℕ) (x : Label) → g.edges ≤ none → Trail g L z t → L z ≡ Some x → x.previous ≡ none → t ≡ []
trail_end_previous g L z [] x b h p q = refl
trail_end_previous g L z (e ∷ t) x b h p q =
    let m : e ≡ x.previous = ap (λ y. y.previous) (some_only h.4 p) in
    let u : Usable g e = trail_usable g L e t h.5 in
    absurd (omega (arith, u.0))

pub trail_on :
    (g : Network) (L : Labelling) (z : ℕ) (t : List ℕ) (x : Label) → Trail g L z t → L z ≡ Some x → 1 < x.edges
    → (r : List ℕ) × (t ≡ x.previous ∷ r) × Step g x.previous z × Trail g L x.previous r
trail_on g L z [] x h p q = absurd (omega (arith, trail_edges g L z [] x h p))
trail_on g L z (e ∷ t) x h p q =
    let m : e ≡ x.previous = ap (λ y. y.previous) (some_only h.4 p) in (
      t,
      ap (λ d. d ∷ t) m,
      subst (λ d. Step g d z) m h.1,
      subst (λ d. Trail g L d t) m h.5,
    )

module _ (g : Network) (a : ℕ) (L : Labelling) (even : Even g) (c : Certified g a L) where
  first_usable : (z : ℕ) (y : Label) → L z ≡ Some y → Usable g a
  first_usable z y p = go (usable_or_not g a)
    where
      go : Usable g a ⊎ (Usable g a → ⊥) → Usable g a
      go (inl u) = u
      go (inr n) = absurd (none_not_some (c.shut n z) p)

  Found : ℕ → Type 0
  Found z = (t : List ℕ) × Trail g L z t × Back g a z t

  trail_from :
      (z : ℕ) (y : Label) → L z ≡ Some y → ((e : ℕ) (x : Label) → L e ≡ Some x → x.edges < y.edges → Found e)
      → (z ≡ a) ⊎ (z ≡ a → ⊥) → Found z
  unfolding Found
  trail_from z y p more (inl e) =
      let u = first_usable z y p in
      let G : ℕ → Type 0 = λ d. Usable g d × (L d ≡ Some (first_label g d)) in
      let h : G z = subst G (sym e) (u, c.first u) in
      ([], h, (h.0, e))
  trail_from z y p more (inr d) =
      let r = c.entered z y p d in
      let h = r.1 in
      let m : h.label.edges < y.edges = omega (arith, ap (λ x. x.edges) h.value) in
      let t = more r.0 h.label h.labelled m in (
        r.0 ∷ t.0,
        (h.usable, h.step, h.label, h.labelled, p ∙ ap Some h.value, t.1),
        (h.usable, h.step, t.2),
      )

  -- every label has a trail, back to the first edge
  trail_within : (n z : ℕ) (y : Label) → L z ≡ Some y → y.edges ≤ n → Found z
  trail_within zero z y p l = trail_from z y p (λ e x q m. absurd (omega arith)) (cases_eq z a)
  trail_within (suc n) z y p l = trail_from z y p (λ e x q m. trail_within n e x q (omega arith)) (cases_eq z a)

  pub trail_of : (z : ℕ) (y : Label) → L z ≡ Some y → (t : List ℕ) × Trail g L z t × Back g a z t
  unfolding Found
  trail_of z y p = trail_within y.edges z y p (omega arith)

  -- every edge that a walk leads to is labelled
  reached : (z : ℕ) (s : List ℕ) → Back g a z s → (y : Label) × (L z ≡ Some y)
  reached z [] b =
      (first_label g z, subst (λ d. L d ≡ Some (first_label g d)) (sym b.1) (c.first (subst (Usable g) b.1 b.0)))
  reached z (e ∷ s) b =
      let r = reached e s b.2 in
      let h = c.closed e z r.0 r.1 b.0 b.1 in
      (h.label, h.labelled)

  -- a label that is less than another, entered from e, is that of a walk that comes before
  less_back : (z e : ℕ) (t s : List ℕ) → LabelLess (back_label g z t) (back_label g z (e ∷ s)) → BackLess g z t (e ∷ s)
  less_back z e t s (inl l) = inl l
  less_back z e t s (inr (p, inl l)) = inr (p, inl (omega (arith, back_edges g z t, back_edges g z (e ∷ s))))
  less_back z e [] s (inr (p, inr (q, l))) = absurd (omega (arith, back_edges g e s))
  less_back z e (d ∷ t) s (inr (p, inr (q, l))) =
      inr (p, inr (omega (arith, back_edges g d t, back_edges g e s), inl l))

  back_trans : (z : ℕ) (t s r : List ℕ) → BackLess g z t s → BackLess g z s r → BackLess g z t r
  back_trans z t s r =
      ordered_trans (back_label g z t).row (back_label g z s).row (back_label g z r).row (length t) (length s) (length r)
      (Less t s) (Less s r) (Less t r)
      (less_trans t s r)

  Least : ℕ → List ℕ → Type 0
  Least z s = (t : List ℕ) → Trail g L z t → (s ≡ t) ⊎ BackLess g z t s

  -- two trails with one label are entered from one edge
  least_same :
      (e z : ℕ) (s t r : List ℕ) → Least e s → Trail g L z t → back_label g z t ≡ back_label g z (e ∷ r)
      → ((e ∷ s) ≡ t) ⊎ BackLess g z t (e ∷ s)
  unfolding Least
  least_same e z s [] r ih h p = absurd (omega (arith, ap (λ x. x.edges) p, back_edges g e r))
  least_same e z s (d ∷ t) r ih h p =
      let q : d ≡ e = ap (λ x. x.previous) p in
      let G : ℕ → Type 0 = λ k. ((e ∷ s) ≡ (k ∷ t)) ⊎ BackLess g z (k ∷ t) (e ∷ s) in
      let k : G e = go (ih t (subst (λ k. Trail g L k t) q h.5)) in
      subst G (sym q) k
    where
      go : (s ≡ t) ⊎ BackLess g e t s → ((e ∷ s) ≡ (e ∷ t)) ⊎ BackLess g z (e ∷ t) (e ∷ s)
      go (inl i) = inl (ap (λ u. e ∷ u) i)
      go (inr l) = inr (back_step g e z t s l)

  -- the step of the lower bound: another walk to e is no better than the trail of e, so the same holds one step on
  least_step : (e z : ℕ) (s : List ℕ) → Usable g z → Step g e z → Back g a e s → Least e s → Least z (e ∷ s)
  unfolding Least
  least_step e z s u st b ih t h =
      let r = reached e s b in
      let f = trail_of e r.0 r.1 in
      let k = c.closed e z (back_label g e f.0) (trail_label g L e f.0 f.1) u st in
      let m : k.label ≡ back_label g z t = some_only k.labelled (trail_label g L z t h) in
      go f.0 (ih f.0 f.1) (subst (λ x. AtMost x (back_label g z (e ∷ f.0))) m k.bound)
    where
      join : (r : List ℕ) → (s ≡ r) ⊎ BackLess g e r s → BackLess g z t (e ∷ r) → BackLess g z t (e ∷ s)
      join r (inl p) l = subst (λ v. BackLess g z t (e ∷ v)) (sym p) l
      join r (inr m) l = back_trans z t (e ∷ r) (e ∷ s) l (back_step g e z r s m)

      go :
          (r : List ℕ) → (s ≡ r) ⊎ BackLess g e r s → AtMost (back_label g z t) (back_label g z (e ∷ r))
          → ((e ∷ s) ≡ t) ⊎ BackLess g z t (e ∷ s)
      go r j (inl p) = least_same e z s t r ih h p
      go r j (inr l) = inr (join r j (less_back z e t r l))

  trail_least : (z : ℕ) (s : List ℕ) → Back g a z s → Least z s
  unfolding Least
  trail_least z [] b [] h = inl refl
  trail_least z [] b (e ∷ t) h =
      let p : L a ≡ Some (back_label g z (e ∷ t)) =
      subst (λ d. L d ≡ Some (back_label g z (e ∷ t))) b.1 (trail_label g L z (e ∷ t) h)
      in
      let q : first_label g a ≡ back_label g z (e ∷ t) = some_only (c.first (subst (Usable g) b.1 b.0)) p in
      absurd (omega (arith, ap (λ x. x.edges) q, back_edges g e t))
  trail_least z (e ∷ s) b t h = least_step e z s b.0 b.1 b.2 (trail_least e s b.2) t h

  pub trail_simplest : (z : ℕ) (t : List ℕ) → Trail g L z t → Back g a z t → BackSimplest g a z t
  unfolding Least
  trail_simplest z t h b = record { leads = b; least = λ s k. trail_least z s k t h }

  pub certificate : Right g a L
  certificate =
      record {
        labelled = λ z x p. turn z x p (trail_of z x p);
        unlabelled = λ z p w l. stop z p (leads_back g a z w l);
      }
    where
      turn :
          (z : ℕ) (x : Label) → L z ≡ Some x → (t : List ℕ) × Trail g L z t × Back g a z t
          → (w : List ℕ) × Simplest g a z w × (x ≡ label_of g w)
      turn z x p (t, h, b) = (
        forth z t,
        simplest_from_back g even a z t (trail_simplest z t h b),
        some_only p (trail_label g L z t h) ∙ back_label_of g even z t,
      )

      stop : (z : ℕ) → L z ≡ None → {w : List ℕ} → (t : List ℕ) × (w ≡ forth z t) × Back g a z t → ⊥
      stop z p (t, e, b) = none_not_some p (reached z t b).1

  -- following the previous edges back from a labelled edge gives its simplest walk
  pub certified_trail :
      (z : ℕ) (x : Label) → L z ≡ Some x
      → (t : List ℕ) × Trail g L z t × Simplest g a z (reverse (z ∷ t)) × (x ≡ label_of g (reverse (z ∷ t)))
  certified_trail z x p =
      let f = trail_of z x p in
      let t = f.0 in
      let e = forth_reverse z t in (
        t,
        f.1,
        subst (Simplest g a z) e (simplest_from_back g even a z t (trail_simplest z t f.1 f.2)),
        some_only p (trail_label g L z t f.1) ∙ back_label_of g even z t ∙ ap (label_of g) e,
      )

-- two labellings that are right agree
pub right_unique : (g : Network) (a : ℕ) (L M : Labelling) → Right g a L → Right g a M → (z : ℕ) → L z ≡ M z
right_unique g a L M r q z = go (L z) (M z) refl refl
  where
    go : (o p : Option Label) → L z ≡ o → M z ≡ p → L z ≡ M z
    go None None l m = l ∙ sym m
    go None (Some y) l m =
        let h = q.labelled z y m in
        absurd (r.unlabelled z l h.0 h.1.leads)
    go (Some x) None l m =
        let h = r.labelled z x l in
        absurd (q.unlabelled z m h.0 h.1.leads)
    go (Some x) (Some y) l m =
        let h = r.labelled z x l in
        let k = q.labelled z y m in
        let e : h.0 ≡ k.0 = simplest_unique g a z h.0 k.0 h.1 k.1 in
        l ∙ ap Some (h.2 ∙ ap (label_of g) e ∙ sym k.2) ∙ sym m
