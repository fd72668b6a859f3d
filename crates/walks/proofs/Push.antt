-- A walk with one more edge at its end: what is known of it from the walk before.
-- Assumes nothing.
use Rattle.std.proofs.Common.{◌≡◌, ℕ, ◌+◌, ◌<◌, List, [], ◌∷◌, ◌++◌, length, sym, refl, ap, ◌∙◌, add_assoc, add_comm, arith}
use Rattle.cost.specs.Rows.{plus, zeros}
use Rattle.walks.specs.Networks.{Network, Usable, Step, Even, Walk, first, final, onward_row, walk_row, walk_charge, walk_length}
use Rattle.walks.specs.Labels.{before_last}
use Rattle.walks.specs.Laws.{PushLaws}
use Rattle.walks.proofs.Order.{plus_comm, plus_assoc, length-plus, length-zeros, plus-zeros}

pub first_push : (w : List ℕ) (f : ℕ) → 0 < length w → first (w ++ (f ∷ [])) ≡ first w
first_push [] f n = absurd (omega arith)
first_push (e ∷ w) f n = refl

pub final_push : (w : List ℕ) (f : ℕ) → final (w ++ (f ∷ [])) ≡ f
final_push [] f = refl
final_push (e ∷ []) f = refl
final_push (e ∷ (d ∷ w)) f = final_push (d ∷ w) f

pub before_last_push : (w : List ℕ) (f : ℕ) → 0 < length w → before_last (w ++ (f ∷ [])) ≡ final w
before_last_push [] f n = absurd (omega arith)
before_last_push (e ∷ []) f n = refl
before_last_push (e ∷ (d ∷ [])) f n = refl
before_last_push (e ∷ (d ∷ (c ∷ w))) f n = before_last_push (d ∷ (c ∷ w)) f (omega arith)

pub walk_filled : (g : Network) (w : List ℕ) → Walk g w → 0 < length w
walk_filled g [] p = absurd p
walk_filled g (e ∷ w) p = omega arith

pub walk_push : (g : Network) (w : List ℕ) (f : ℕ) → Walk g w → Step g (final w) f → Usable g f → Walk g (w ++ (f ∷ []))
walk_push g [] f p s u = absurd p
walk_push g (e ∷ []) f p s u = (p, s, u)
walk_push g (e ∷ (d ∷ w)) f p s u = (p.0, p.1, walk_push g (d ∷ w) f p.2 s u)

pub walk_from_push :
    (g : Network) (w : List ℕ) (f : ℕ) → 0 < length w → Walk g (w ++ (f ∷ [])) → Walk g w × Step g (final w) f × Usable g f
walk_from_push g [] f n p = absurd (omega arith)
walk_from_push g (e ∷ []) f n p = p
walk_from_push g (e ∷ (d ∷ w)) f n p =
    let r = walk_from_push g (d ∷ w) f (omega arith) p.2 in
    ((p.0, p.1, r.0), r.1, r.2)

pub onward_push :
    (g : Network) (e : ℕ) (w : List ℕ) (f : ℕ)
    → onward_row g e (w ++ (f ∷ [])) ≡ plus (onward_row g e w) (g.amount (g.charge (final (e ∷ w)) f) (g.long f))
onward_push g e [] f = plus_comm (g.amount (g.charge e f) (g.long f)) (zeros g.places)
onward_push g e (d ∷ w) f =
    ap (plus (g.amount (g.charge e d) (g.long d))) (onward_push g d w f)
    ∙ sym
    (plus_assoc (g.amount (g.charge e d) (g.long d)) (onward_row g d w)
    (g.amount (g.charge (final (d ∷ w)) f) (g.long f)))

pub row_push :
    (g : Network) (w : List ℕ) (f : ℕ) → 0 < length w
    → walk_row g (w ++ (f ∷ [])) ≡ plus (walk_row g w) (g.amount (g.charge (final w) f) (g.long f))
row_push g [] f n = absurd (omega arith)
row_push g (e ∷ w) f n =
    ap (plus (g.amount 0 (g.long e))) (onward_push g e w f)
    ∙ sym
    (plus_assoc (g.amount 0 (g.long e)) (onward_row g e w)
    (g.amount (g.charge (final (e ∷ w)) f) (g.long f)))

pub row_one : (g : Network) → Even g → (e : ℕ) → walk_row g (e ∷ []) ≡ g.amount 0 (g.long e)
row_one g even e = plus-zeros g.places (g.amount 0 (g.long e)) (even 0 (g.long e))

pub charge_push :
    (g : Network) (w : List ℕ) (f : ℕ) → 0 < length w
    → walk_charge g (w ++ (f ∷ [])) ≡ walk_charge g w + g.charge (final w) f
charge_push g [] f n = absurd (omega arith)
charge_push g (e ∷ []) f n = add_comm (g.charge e f) 0
charge_push g (e ∷ (d ∷ w)) f n =
    ap (λ m. g.charge e d + m) (charge_push g (d ∷ w) f (omega arith))
    ∙ sym (add_assoc (g.charge e d) (walk_charge g (d ∷ w)) (g.charge (final (d ∷ w)) f))

pub length_push : (g : Network) (w : List ℕ) (f : ℕ) → walk_length g (w ++ (f ∷ [])) ≡ walk_length g w + g.long f
length_push g [] f = add_comm (g.long f) 0
length_push g (e ∷ w) f =
    ap (λ m. g.long e + m) (length_push g w f) ∙ sym (add_assoc (g.long e) (walk_length g w) (g.long f))

pub length_onward : (g : Network) → Even g → (e : ℕ) (w : List ℕ) → length (onward_row g e w) ≡ g.places
length_onward g even e [] = length-zeros g.places
length_onward g even e (f ∷ w) =
    length-plus g.places (g.amount (g.charge e f) (g.long f)) (onward_row g f w) (even (g.charge e f) (g.long f))
    (length_onward g even f w)

pub length-row : (g : Network) → Even g → (w : List ℕ) → length (walk_row g w) ≡ g.places
length-row g even [] = length-zeros g.places
length-row g even (e ∷ w) =
    length-plus g.places (g.amount 0 (g.long e)) (onward_row g e w) (even 0 (g.long e)) (length_onward g even e w)

pub push_laws : PushLaws
push_laws = record { row = row_push; charge = charge_push; long = length_push }
