-- The charge of a step that is not straight.
use Rattle.std.proofs.Common.{◌≡◌, ℕ, ◌+◌, ◌<◌, true, false, cond, not, ◌&&◌, eqb, ◌⊎◌, length, sym, ap, ◌∙◌, inl, inr, arith}
use Rattle.std.proofs.lemmas.Bool.{cases_eq, lt-leb, eq-eqb, ne_eqb, and_right, le-ltb, lt-ltb}
use Rattle.turns.specs.declared.class.Class.TheVariants.{Straight}
use Rattle.plan.specs.Plans.{Plan, degree, edge_at, steps}
use Rattle.rules.specs.Ambiguity.{other}
use Rattle.rules.specs.Charges.{below, in_class, straight}
use Rattle.rules.specs.Slots.{way_on, slots_at, slots_charge}
use Rattle.rules.specs.Counts.{below_same, without_other, without_itself}

module _ (p : Plan) (e f n : ℕ) (step : steps p e f ≡ true) (turning : straight p e f ≡ false) (here : n ≡ degree p (edge_at p e).end) where
  -- where the step itself is not straight, the straight steps are all others
  others : below (other p e Straight f) (length p.edges) ≡ below (in_class p e Straight) (length p.edges)
  others = below_same _ _ (length p.edges) (λ k l. go k (cases_eq k f))
    where
      go : (k : ℕ) → (k ≡ f) ⊎ (k ≡ f → ⊥) → other p e Straight f k ≡ in_class p e Straight k
      go k (inl h) = without_itself f (in_class p e Straight) k h ∙ sym (ap (in_class p e Straight) h ∙ and_right (steps p e f) (straight p e f) turning)
      go k (inr h) = without_other f (in_class p e Straight) k h

  whole : slots_charge p e f ≡ slots_at false (way_on p e) n
  whole =
      ap (λ b. cond b (slots_at (straight p e f) (way_on p e) (degree p (edge_at p e).end)) 0) step
      ∙ ap (λ b. slots_at b (way_on p e) (degree p (edge_at p e).end)) turning
      ∙ ap (slots_at false (way_on p e)) (sym here)

  past_two : 2 < n → slots_charge p e f ≡ cond (eqb n 3 && not (way_on p e)) 6 (5 + n)
  past_two h = whole ∙ ap (λ b. cond b 4 (cond (eqb n 3 && not (way_on p e)) 6 (5 + n))) (lt-leb n 2 h)

  pub at_three : n ≡ 3 → below (other p e Straight f) (length p.edges) ≡ 0 → slots_charge p e f ≡ 6
  at_three h none =
      let w : way_on p e ≡ false = le-ltb 0 _ (omega (arith, none, others)) in
      past_two (omega (arith, h)) ∙ ap (λ b. cond (b && not (way_on p e)) 6 (5 + n)) (eq-eqb n 3 h) ∙ ap (λ b. cond (not b) 6 (5 + n)) w

  pub past_three : 2 < n → (n ≡ 3 → 0 < below (other p e Straight f) (length p.edges)) → slots_charge p e f ≡ 5 + n
  past_three h some = past_two h ∙ go (cases_eq n 3)
    where
      go : (n ≡ 3) ⊎ (n ≡ 3 → ⊥) → cond (eqb n 3 && not (way_on p e)) 6 (5 + n) ≡ 5 + n
      go (inl q) =
          let w : way_on p e ≡ true = lt-ltb 0 _ (omega (arith, some q, others)) in
          ap (λ b. cond b 6 (5 + n)) (and_right (eqb n 3) (not (way_on p e)) (ap not w))
      go (inr q) = ap (λ b. cond (b && not (way_on p e)) 6 (5 + n)) (ne_eqb n 3 q)
