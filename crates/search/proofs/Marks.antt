-- Reading and writing labels, by what they mean.
use Rattle.std.proofs.Common.{◌≡◌, ℕ, zero, suc, ◌+◌, ◌<◌, cond, ◌⊎◌, List, [], ◌∷◌, map, length, get_or, set, Some, None, sym, refl, ap, ◌∙◌, subst, subst₂, inl, inr, arith}
use Rattle.std.proofs.lemmas.List.{get_or-map, map-set, get_or-set_same, get_or-set_other, get_or_read, length-map}
use Rattle.std.proofs.lemmas.Bool.{cases_eq, eq-eqb, ne_eqb}
use Rattle.cost.specs.declared.kind.CostKind.{Ghosts as Kind}
use Rattle.walks.specs.Labels.{Label as Mark, KeyLess, KeyAtMost}
use Rattle.walks.specs.Loop.{with_label}
use Rattle.walks.proofs.Options.{some_same, none_not_some}
use Rattle.cost.specs.Rows.{Less}
use Rattle.walks.proofs.Keys.{key_refl, key_at_most}
use Rattle.walks.proofs.Order.{less_trans}
use Rattle.search.specs.Labels.{plain, meaning, label_in}
use Rattle.search.specs.Queues.{Least, edge_in}
use Rattle.search.specs.declared.label.Label.{Label}
use Rattle.search.specs.declared.queue.QueueSlot.{QueueSlot}

pub key_trans : (x y z : Mark) → KeyAtMost x y → KeyAtMost y z → KeyAtMost x z
key_trans x y z (inl a) (inl b) = inl (less_trans x.row y.row z.row a b)
key_trans x y z (inl a) (inr (e, m)) = inl (subst (Less x.row) e a)
key_trans x y z (inr (e, l)) (inl b) = inl (subst (λ r. Less r z.row) (sym e) b)
key_trans x y z (inr (e, l)) (inr (f, m)) = inr (e ∙ f, omega arith)

module _ {C : Type 0} (K : Kind C) where
  pub meaning_some : (x : Label C) → 0 < x.edges → meaning K x ≡ Some (plain K x)
  meaning_some x h = ap (λ b. cond b None (Some (plain K x))) (ne_eqb x.edges 0 (λ e. omega (arith, e)))

  pub meaning_none : (x : Label C) → x.edges ≡ 0 → meaning K x ≡ None
  meaning_none x h = ap (λ b. cond b None (Some (plain K x))) (eq-eqb x.edges 0 h)

  pub meaning_is : (x : Label C) (m : Mark) → meaning K x ≡ Some m → m ≡ plain K x
  meaning_is x m h = go (cases_eq x.edges 0)
    where
      go : (x.edges ≡ 0) ⊎ (x.edges ≡ 0 → ⊥) → m ≡ plain K x
      go (inl e) = absurd (none_not_some (meaning_none x e) h)
      go (inr e) = some_same (sym h ∙ meaning_some x (omega (arith, e)))

  -- what is read at a place
  pub label_read : (ls : List (Label C)) (e : ℕ) (x : Label C) → e < length ls → x ≡ get_or ls e x → label_in K ls e ≡ meaning K x
  label_read ls e x l h = get_or-map (meaning K) ls e x None l ∙ ap (meaning K) (sym h)

  pub label_is : (ls : List (Label C)) (e : ℕ) (x : Label C) (m : Mark) → e < length ls → x ≡ get_or ls e x → label_in K ls e ≡ Some m → m ≡ plain K x
  label_is ls e x m l h q = meaning_is x m (sym (label_read ls e x l h) ∙ q)

  -- where a label is read, one is held
  pub label_held : (ls : List (Label C)) (e : ℕ) (m : Mark) → label_in K ls e ≡ Some m → (x : Label C) × (x ≡ get_or ls e x)
  label_held [] e m h = absurd (none_not_some refl h)
  label_held (x ∷ ls) zero m h = (x, refl)
  label_held (x ∷ ls) (suc e) m h = label_held ls e m h

  -- what is read after a write
  pub label_wrote : (ls : List (Label C)) (f : ℕ) (x : Label C) → f < length ls → 0 < x.edges → (e : ℕ) → with_label (label_in K ls) f (plain K x) e ≡ label_in K (set ls f x) e
  label_wrote ls f x l h e = go (cases_eq e f)
    where
      n : length (map (meaning K) ls) ≡ length ls
      n = length-map ls (meaning K)

      go : (e ≡ f) ⊎ (e ≡ f → ⊥) → with_label (label_in K ls) f (plain K x) e ≡ label_in K (set ls f x) e
      go (inl q) =
          let m : f < length (map (meaning K) ls) = omega (arith, n) in
          ap (λ b. cond b (Some (plain K x)) (label_in K ls e)) (eq-eqb e f q)
          ∙ sym (meaning_some x h)
          ∙ sym (get_or-set_same (map (meaning K) ls) f (meaning K x) None m)
          ∙ ap (λ j. get_or (set (map (meaning K) ls) f (meaning K x)) j None) (sym q)
          ∙ ap (λ ms. get_or ms e None) (sym (map-set (meaning K) ls f x))
      go (inr q) =
          ap (λ b. cond b (Some (plain K x)) (label_in K ls e)) (ne_eqb e f q)
          ∙ sym (get_or-set_other (map (meaning K) ls) f e (meaning K x) None q)
          ∙ ap (λ ms. get_or ms e None) (sym (map-set (meaning K) ls f x))

  module _ (ls : List (Label C)) (slots : List QueueSlot) (at best : ℕ) (x y : Label C) (here : edge_in slots at < length ls) (there : edge_in slots best < length ls) (reads : x ≡ get_or ls (edge_in slots at) x) (held : y ≡ get_or ls (edge_in slots best) y) (old : Least K ls slots at best) where
    at_here : (d : Label C) → get_or ls (edge_in slots at) d ≡ x
    at_here d = sym (get_or_read ls (edge_in slots at) x here reads d)

    at_there : (d : Label C) → get_or ls (edge_in slots best) d ≡ y
    at_there d = sym (get_or_read ls (edge_in slots best) y there held d)

    pub least_keeps : KeyAtMost (plain K y) (plain K x) → Least K ls slots (at + 1) best
    least_keeps h k d l = go (cases_eq k at)
      where
        go : (k ≡ at) ⊎ (k ≡ at → ⊥) → KeyAtMost (plain K (get_or ls (edge_in slots best) d)) (plain K (get_or ls (edge_in slots k) d))
        go (inl e) = subst₂ (λ u v. KeyAtMost (plain K u) (plain K v)) (sym (at_there d)) (sym (at_here d) ∙ ap (λ j. get_or ls (edge_in slots j) d) (sym e)) h
        go (inr e) = old k d (omega (arith, e))

    pub least_takes : KeyLess (plain K x) (plain K y) → Least K ls slots (at + 1) at
    least_takes h k d l = go (cases_eq k at)
      where
        go : (k ≡ at) ⊎ (k ≡ at → ⊥) → KeyAtMost (plain K (get_or ls (edge_in slots at) d)) (plain K (get_or ls (edge_in slots k) d))
        go (inl e) = subst (λ j. KeyAtMost (plain K (get_or ls (edge_in slots at) d)) (plain K (get_or ls (edge_in slots j) d))) (sym e) (key_refl (plain K (get_or ls (edge_in slots at) d)))
        go (inr e) =
            key_trans (plain K (get_or ls (edge_in slots at) d)) (plain K y) (plain K (get_or ls (edge_in slots k) d))
            (subst (λ u. KeyAtMost (plain K u) (plain K y)) (sym (at_here d)) (key_at_most (plain K x) (plain K y) h))
            (subst (λ u. KeyAtMost (plain K u) (plain K (get_or ls (edge_in slots k) d))) (at_there d) (old k d (omega (arith, e))))
