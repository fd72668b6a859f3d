-- A new length in one drawn row keeps what a drawing promises of its rows.
use Rattle.std.proofs.Common.{◌≡◌, ℕ, ◌<◌, ◌≤◌, Bool, true, cond, not, eqb, ltb, leb, ◌⊎◌, List, length, get_or, take, set, None, count_by, sym, ap, ◌∙◌, inl, inr, arith}
use lib.Seq.{take-set-lt}
use Rattle.std.proofs.lemmas.List.{length-take-le, get_or-take, get_or-set_same, get_or-set_other}
use Rattle.std.proofs.lemmas.List.Sums.{sum_by-set}
use Rattle.std.proofs.lemmas.Bool.{and_parts, and_from, ltb-false, lt-ltb, le-leb, cases_eq}
use Rattle.plan.specs.Plans.{no_row}
use Rattle.plan.specs.Rows.{fine}
use Rattle.plan.specs.Studies.{length_fault, measured, with_length}
use Rattle.plan.specs.declared.row.EdgeRow.{EdgeRow}
use Rattle.plan.proofs.Faults.{passed}

-- a count does not see a change to which its test is blind
pub count_blind : {X : Type 0} (p : X → Bool) (xs : List X) (i : ℕ) (y d : X) → i < length xs → p y ≡ p (get_or xs i d) → count_by p (set xs i y) ≡ count_by p xs
count_blind p xs i y d h e =
    let s = sum_by-set (λ x. cond (p x) 1 0) xs i y d h in
    let f : ◌≡◌ {A = ℕ} (cond (p y) 1 0) (cond (p (get_or xs i d)) 1 0) = ap (λ b. cond b 1 0) e in
    omega (arith, s, f)

module _ (rows : List EdgeRow) (n at long : ℕ) (within : n ≤ length rows) (drawn : at < n) where
  pub count-measured : (p : EdgeRow → Bool) → ((r : EdgeRow) → p (with_length r long) ≡ p r) → count_by p (take n (set rows at (with_length (get_or rows at no_row) long))) ≡ count_by p (take n rows)
  count-measured p blind =
      let e = length-take-le n rows within in
      let h : at < length (take n rows) = omega (arith, e) in
      ap (count_by p) (take-set-lt n rows at (with_length (get_or rows at no_row) long) drawn)
      ∙ count_blind p (take n rows) at (with_length (get_or rows at no_row) long) no_row h
      (blind (get_or rows at no_row) ∙ ap p (sym (get_or-take n rows at no_row drawn)))

  pub edges_measured : take n (set rows at (with_length (get_or rows at no_row) long)) ≡ measured (take n rows) at long
  edges_measured =
      take-set-lt n rows at (with_length (get_or rows at no_row) long) drawn
      ∙ ap (λ r. set (take n rows) at (with_length r long)) (sym (get_or-take n rows at no_row drawn))

-- a row within its bounds stays so under a sound length
fine-length : (r : EdgeRow) (long : ℕ) → length_fault long ≡ None → fine r ≡ true → fine (with_length r long) ≡ true
fine-length r long e h =
    let n = passed (ltb long 1) _ _ e in
    let o = passed (ltb 100000 long) _ _ n.1 in
    let a = and_parts (ltb r.start 1024) _ h in
    let b = and_parts (ltb r.end 1024) _ a.1 in
    let c = and_parts (not (eqb r.start r.end)) _ b.1 in
    let d = and_parts (ltb 0 r.length) _ c.1 in
    let f = and_parts (leb r.length 100000) _ d.1 in
    and_from _ _ a.0
    (and_from _ _ b.0
    (and_from _ _ c.0
    (and_from _ _ (lt-ltb 0 long (omega (arith, ltb-false long 1 n.0)))
    (and_from _ _ (le-leb long 100000 (omega (arith, ltb-false 100000 long o.0))) f.1))))

pub fine-measured : (rows : List EdgeRow) (n at long : ℕ) → n ≤ length rows → at < n → length_fault long ≡ None → ((k : ℕ) (d : EdgeRow) → k < n → fine (get_or rows k d) ≡ true) → (k : ℕ) (d : EdgeRow) → k < n → fine (get_or (set rows at (with_length (get_or rows at no_row) long)) k d) ≡ true
fine-measured rows n at long within drawn e old k d h = go (cases_eq k at)
  where
    new : EdgeRow
    new = with_length (get_or rows at no_row) long

    go : (k ≡ at) ⊎ (k ≡ at → ⊥) → fine (get_or (set rows at new) k d) ≡ true
    go (inl q) =
        let l : at < length rows = omega arith in
        ap (λ j. fine (get_or (set rows at new) j d)) q ∙ ap fine (get_or-set_same rows at new d l)
        ∙ fine-length (get_or rows at no_row) long e (old at no_row drawn)
    go (inr q) = ap fine (get_or-set_other rows at k new d q) ∙ old k d h
