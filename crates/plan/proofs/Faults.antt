-- What a call that is not refused has passed.
use Rattle.std.proofs.Common.{◌≡◌, ℕ, ◌+◌, ◌<◌, ◌≤◌, Bool, true, false, cond, not, eqb, ltb, leb, List, [], ◌∷◌, length, Some, None, count_by, Option, refl, ◌∙◌, arith}
use Rattle.std.specs.List.{prefix_len}
use Rattle.std.proofs.lemmas.List.Sums.{sum_by-cons}
use Rattle.std.proofs.lemmas.Bool.{ltb-false, leb-false, le-leb, lt-ltb, and_from, not_from_false}
use Rattle.turns.specs.declared.fault.PlanFault.{PlanFault}
use Rattle.plan.specs.Rows.{fine, joins, leaves}
use Rattle.plan.specs.Studies.{brought, otherwise, place, room_fault, junction_fault, length_fault, row_fault, draw_fault}
use Rattle.plan.specs.declared.row.EdgeRow.{EdgeRow}

-- a fault that is none came of two that are none
pub otherwise_none : (a b : Option PlanFault) → otherwise a b ≡ None → (a ≡ None) × (b ≡ None)
otherwise_none (Some f) b e = absurd (let z : ◌≡◌ {A = ℕ} 0 1 = cc in omega arith)
otherwise_none None b e = (refl, e)

-- a check that passed
pub passed : (t : Bool) (f : PlanFault) (rest : Option PlanFault) → cond t (Some f) rest ≡ None → (t ≡ false) × (rest ≡ None)
passed true f rest e = absurd (let z : ◌≡◌ {A = ℕ} 0 1 = cc in omega arith)
passed false f rest e = (refl, e)

-- where no row passes, none is counted
none_counted : {X : Type 0} (p : X → Bool) (xs : List X) → length xs ≤ prefix_len (λ x. not (p x)) xs → count_by p xs ≡ 0
none_counted p [] h = refl
none_counted p (x ∷ xs) h = go (p x) refl (none_counted p xs)
  where
    go : (t : Bool) → p x ≡ t → (length xs ≤ prefix_len (λ y. not (p y)) xs → count_by p xs ≡ 0) → count_by p (x ∷ xs) ≡ 0
    go true e rest =
        let l : prefix_len (λ y. not (p y)) (x ∷ xs) ≡ 0 = rw e refl in
        absurd (omega arith)
    go false e rest =
        let l : prefix_len (λ y. not (p y)) (x ∷ xs) ≡ 1 + prefix_len (λ y. not (p y)) xs = rw e refl in
        let n : count_by p xs ≡ 0 = rest (omega arith) in
        sum_by-cons (λ y. cond (p y) 1 0) x xs ∙ (rw (e, n) refl)

-- what a row that may be drawn has passed
pub record Drawable (rows : ℕ) (edges : List EdgeRow) (r : EdgeRow) : Type 0 where
  pub room : length edges < rows
  pub few : length edges < 1024
  pub good : fine r ≡ true
  pub single : count_by (joins r.start r.end) edges ≡ 0
  pub narrow : count_by (leaves r.start) edges < 16

fine-row : (r : EdgeRow) → row_fault (brought r) ≡ None → fine r ≡ true
fine-row r e =
    let f = otherwise_none (junction_fault r.start r.end) _ e in
    let g = otherwise_none (length_fault r.length) _ f.1 in
    let j = passed (ltb 1023 r.start) _ _ f.0 in
    let k = passed (eqb r.start r.end) _ _ j.1 in
    let m = passed (ltb 1023 r.end) _ _ k.1 in
    let n = passed (ltb r.length 1) _ _ g.0 in
    let o = passed (ltb 100000 r.length) _ _ n.1 in
    let p = passed (ltb 359 r.leaving) _ _ g.1 in
    let q = passed (ltb 359 r.arriving) _ _ p.1 in
    and_from _ _ (lt-ltb r.start 1024 (omega (arith, ltb-false 1023 r.start j.0)))
    (and_from _ _ (lt-ltb r.end 1024 (omega (arith, ltb-false 1023 r.end m.0)))
    (and_from _ _ (not_from_false _ k.0)
    (and_from _ _ (lt-ltb 0 r.length (omega (arith, ltb-false r.length 1 n.0)))
    (and_from _ _ (le-leb r.length 100000 (omega (arith, ltb-false 100000 r.length o.0)))
    (and_from _ _ (lt-ltb r.leaving 360 (omega (arith, ltb-false 359 r.leaving p.0)))
    (lt-ltb r.arriving 360 (omega (arith, ltb-false 359 r.arriving q.0))))))))

pub drawable : (rows : ℕ) (edges : List EdgeRow) (r : EdgeRow) → draw_fault rows edges (brought r) ≡ None → Drawable rows edges r
drawable rows edges r e =
    let f = otherwise_none (room_fault rows edges) _ e in
    let g = otherwise_none (row_fault (brought r)) _ f.1 in
    let a = passed (leb rows (length edges)) _ _ f.0 in
    let b = passed (leb 1024 (length edges)) _ _ a.1 in
    let p = passed (ltb (place r.start r.end edges) (length edges)) _ _ g.1 in
    let q = passed (leb 16 (count_by (leaves r.start) edges)) _ _ p.1 in
    record {
      room = leb-false rows (length edges) a.0;
      few = leb-false 1024 (length edges) b.0;
      good = fine-row r g.0;
      single = none_counted (joins r.start r.end) edges (ltb-false _ _ p.0);
      narrow = leb-false 16 (count_by (leaves r.start) edges) q.0;
    }
