-- A row more at the end of the drawn ones keeps what a drawing promises of its rows.
use Rattle.std.proofs.Common.{◌≡◌, ℕ, ◌+◌, ◌<◌, ◌≤◌, Bool, true, false, cond, eqb, List, length, get_or, take, drop, set, count_by, sym, refl, ap, ◌∙◌, subst, arith, below_more}
use Rattle.std.proofs.lemmas.List.{take_more_set, get_or-set_same, get_or-set_other, drop-set-lt, drop-drop}
use Rattle.std.proofs.lemmas.List.Sums.{sum_by_push}
use Rattle.std.proofs.lemmas.Bool.{and_parts, eqb-true}
use Rattle.plan.specs.Rows.{fine, joins, leaves}
use Rattle.plan.specs.declared.row.EdgeRow.{EdgeRow}

-- a count after a push stays within its bound, if it is below the bound where the new row counts
pub count_put : {X : Type 0} (p : X → Bool) (most : ℕ) (rows : List X) (at : ℕ) (r : X) → at < length rows → count_by p (take at rows) ≤ most → (p r ≡ true → count_by p (take at rows) < most) → count_by p (take (at + 1) (set rows at r)) ≤ most
count_put p most rows at r within old new =
    let e : count_by p (take (at + 1) (set rows at r)) ≡ count_by p (take at rows) + cond (p r) 1 0 =
    ap (count_by p) (take_more_set rows at r within) ∙ sum_by_push (λ y. cond (p y) 1 0) (take at rows) r in
    go (p r) refl e
  where
    go : (t : Bool) → p r ≡ t → count_by p (take (at + 1) (set rows at r)) ≡ count_by p (take at rows) + cond (p r) 1 0 → count_by p (take (at + 1) (set rows at r)) ≤ most
    go true q e = let f = rw q at e in omega (arith, new q)
    go false q e = let f = rw q at e in omega arith

pub fine_put : (rows : List EdgeRow) (at : ℕ) (r : EdgeRow) → at < length rows → ((k : ℕ) (d : EdgeRow) → k < at → fine (get_or rows k d) ≡ true) → fine r ≡ true → (k : ℕ) (d : EdgeRow) → k < at + 1 → fine (get_or (set rows at r) k d) ≡ true
fine_put rows at r within old good k d h =
    below_more (λ j. fine (get_or (set rows at r) j d) ≡ true) at
    (λ j l. let ne : j ≡ at → ⊥ = omega arith in rw get_or-set_other (old j d l))
    (rw get_or-set_same good) k h

-- a row that leads between the same junctions counts with the new one
pub single_put : (rows : List EdgeRow) (at : ℕ) (r : EdgeRow) → at < length rows → ((s e : ℕ) → count_by (joins s e) (take at rows) ≤ 1) → count_by (joins r.start r.end) (take at rows) ≡ 0 → (s e : ℕ) → count_by (joins s e) (take (at + 1) (set rows at r)) ≤ 1
single_put rows at r within old new s e =
    count_put (joins s e) 1 rows at r within (old s e)
    (λ q. let both = and_parts (eqb r.start s) (eqb r.end e) q in
    let a : r.start ≡ s = eqb-true r.start s both.0 in
    let b : r.end ≡ e = eqb-true r.end e both.1 in
    let z : count_by (joins s e) (take at rows) ≡ 0 = subst (λ x. count_by (joins s x) (take at rows) ≡ 0) b (subst (λ x. count_by (joins x r.end) (take at rows) ≡ 0) a new) in
    omega arith)

pub narrow_put : (rows : List EdgeRow) (at : ℕ) (r : EdgeRow) → at < length rows → ((s : ℕ) → count_by (leaves s) (take at rows) ≤ 16) → count_by (leaves r.start) (take at rows) < 16 → (s : ℕ) → count_by (leaves s) (take (at + 1) (set rows at r)) ≤ 16
narrow_put rows at r within old new s =
    count_put (leaves s) 16 rows at r within (old s)
    (λ q. subst (λ x. count_by (leaves x) (take at rows) < 16) (eqb-true r.start s q) new)

pub drop_put : {X : Type 0} (rows : List X) (at : ℕ) (r : X) → drop (at + 1) (set rows at r) ≡ drop 1 (drop at rows)
drop_put rows at r =
    let h : at < at + 1 = omega arith in
    drop-set-lt (at + 1) rows at r h ∙ sym (drop-drop 1 at rows)
