-- No rule charges more than its largest charge, over a sound plan.
use Rattle.std.specs.Prelude.{◌≡◌, ℕ, ◌<◌, ◌≤◌, Bool, true, not, ◌&&◌, length, count_by, ◌==◌, nat_le, nat_lt, slice_index_or}
use Rattle.std.proofs.Common.{ap, arith}
use Rattle.std.proofs.lemmas.List.{take_all}
use Rattle.std.proofs.lemmas.Bool.{cond_both, and_parts, and_from, ltb-true}
use Rattle.turns.specs.declared.class.Class.{Class}
use Rattle.plan.specs.Plans.{Plan, Sound, degree, edge_at, no_row, steps, step_class}
use Rattle.plan.specs.Rows.{leaves}
use Rattle.rules.specs.Ambiguity.{ambiguity_charge, other}
use Rattle.rules.specs.Charges.{below, straight}
use Rattle.rules.specs.Slots.{slots_at, slots_charge, way_on}
use Rattle.rules.specs.Turns.{turns_charge}
use Rattle.rules.specs.Counts.{below_mono, below_without, below_places, without}

slots_at_le : (ahead way : Bool) (n : ℕ) → n ≤ 16 → slots_at ahead way n ≤ 21
slots_at_le ahead way n h =
    cond_both ahead _ _ (λ v. v ≤ 21) (λ _. omega arith)
    (λ _. cond_both (nat_le n 2) _ _ (λ v. v ≤ 21) (λ _. omega arith)
    (λ _. cond_both (n == 3 && not way) _ _ (λ v. v ≤ 21) (λ _. omega arith) (λ _. omega arith)))

pub slots_bound : (p : Plan) (e f : ℕ) → Sound p → slots_charge p e f ≤ 21
slots_bound p e f s =
    cond_both (steps p e f) _ 0 (λ v. v ≤ 21)
    (λ _. slots_at_le (straight p e f) (way_on p e) (degree p (edge_at p e).end) (s.narrow (edge_at p e).end))
    (λ _. omega arith)

-- what a step says of the edge that it enters
record Entered (p : Plan) (e f : ℕ) : Type 0 where
  drawn : f < length p.edges
  here : leaves (edge_at p e).end (edge_at p f) ≡ true

entered : (p : Plan) (e f : ℕ) → steps p e f ≡ true → Entered p e f
entered p e f h =
    let a = and_parts (nat_lt e (length p.edges)) _ h in
    let b = and_parts (nat_lt f (length p.edges)) _ a.1 in
    let c = and_parts ((edge_at p f).start == (edge_at p e).end) _ b.1 in
    record { drawn = ltb-true f (length p.edges) b.0; here = c.0 }

others_le : (p : Plan) (e f : ℕ) (c : Class) → degree p (edge_at p e).end ≤ 16 → steps p e f ≡ true → below (other p e c f) (length p.edges) ≤ 15
others_le p e f c few h =
    let n : ℕ = length p.edges in
    let q : ℕ → Bool = λ k. leaves (edge_at p e).end (slice_index_or p.edges k no_row) in
    let mono = below_mono (other p e c f) (without f q) n
    (λ k t. let a = and_parts (not (k == f)) _ t in let b = and_parts (steps p e k) _ a.1 in and_from _ _ a.0 (entered p e k b.0).here) in
    let one = below_without q f n (entered p e f h).drawn (entered p e f h).here in
    let all = below_places (leaves (edge_at p e).end) p.edges no_row n (omega arith) in
    let whole = ap (count_by (leaves (edge_at p e).end)) (take_all n p.edges (omega arith)) in
    omega (arith, mono, one, all, whole, few)

pub ambiguity_bound : (p : Plan) (e f : ℕ) → Sound p → ambiguity_charge p e f ≤ 15
ambiguity_bound p e f s =
    cond_both (steps p e f) _ 0 (λ v. v ≤ 15)
    (λ h. others_le p e f (step_class p e f) (s.narrow (edge_at p e).end) h)
    (λ _. omega arith)

pub turns_bound : (p : Plan) (e f : ℕ) → turns_charge p e f ≤ 1
turns_bound p e f =
    cond_both (steps p e f) _ 0 (λ v. v ≤ 1)
    (λ _. cond_both (straight p e f) 0 1 (λ v. v ≤ 1) (λ _. omega arith) (λ _. omega arith))
    (λ _. omega arith)
