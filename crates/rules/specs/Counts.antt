-- Counting the numbers below a bound that pass a test.
use Rattle.std.specs.Prelude.{◌≡◌, ℕ, zero, suc, ◌+◌, ◌<◌, ◌≤◌, Bool, true, false, cond, not, ◌&&◌, ◌⊎◌, List, length, take, count_by, ◌==◌, ◌≢◌, slice_index_or, refl}
use Rattle.std.proofs.Common.{sym, ap, ◌∙◌, inl, inr, arith, add-one}
use Rattle.std.proofs.lemmas.List.Sums.{sum_by_more}
use Rattle.std.proofs.lemmas.Bool.{cases_eq, eq-eqb, ne_eqb}
use Rattle.rules.specs.Charges.{below}

abbrev pub one_if : Bool → ℕ
one_if b = cond b 1 0

-- the step of a loop that counts
pub below_more : (q : ℕ → Bool) (n : ℕ) → below q (n + 1) ≡ below q n + cond (q n) 1 0
below_more q n = rw add-one refl

pub count_step : (q : ℕ → Bool) (n count new : ℕ) (b : Bool) → count ≡ below q n → b ≡ q n → new ≡ count + one_if b → new ≡ below q (n + 1)
count_step q n count new b e h f =
    let g : one_if b ≡ one_if (q n) = ap one_if h in
    omega (arith, e, f, g, below_more q n)

one_le : (a b : Bool) → (a ≡ true → b ≡ true) → one_if a ≤ one_if b
one_le true b h = rw (h refl) (omega arith)
one_le false b h = omega arith

-- a stricter test counts no more
pub below_mono : (q r : ℕ → Bool) (n : ℕ) → ((k : ℕ) → q k ≡ true → r k ≡ true) → below q n ≤ below r n
below_mono q r zero h = omega arith
below_mono q r (suc n) h = omega (arith, below_mono q r n h, one_le (q n) (r n) (h n))

-- tests that agree below the bound count the same
pub below_same : (q r : ℕ → Bool) (n : ℕ) → ((k : ℕ) → k < n → q k ≡ r k) → below q n ≡ below r n
below_same q r zero h = refl
below_same q r (suc n) h =
    ap (λ m. m + one_if (q n)) (below_same q r n (λ k l. h k (omega arith)))
    ∙ ap (λ b. below r n + one_if b) (h n (omega arith))

-- a test that leaves out one number
abbrev pub without : ℕ → (ℕ → Bool) → ℕ → Bool
without f q k = not (k == f) && q k

pub without_other : (f : ℕ) (q : ℕ → Bool) (k : ℕ) → (k ≢ f) → without f q k ≡ q k
without_other f q k h = ap (λ b. not b && q k) (ne_eqb k f h)

pub without_itself : (f : ℕ) (q : ℕ → Bool) (k : ℕ) → k ≡ f → without f q k ≡ false
without_itself f q k h = ap (λ b. not b && q k) (eq-eqb k f h)

-- leaving out one number that passes counts one less
pub below_without : (q : ℕ → Bool) (f n : ℕ) → f < n → q f ≡ true → below (without f q) n + 1 ≡ below q n
below_without q f zero h p = absurd (omega arith)
below_without q f (suc n) h p = go (cases_eq n f) (below_without q f n)
  where
    go : (n ≡ f) ⊎ (n ≢ f) → (f < n → q f ≡ true → below (without f q) n + 1 ≡ below q n) → below (without f q) (suc n) + 1 ≡ below q (suc n)
    go (inl e) rest =
        let a = below_same (without f q) q n (λ k l. without_other f q k (λ z. omega (arith, z, e))) in
        let b : one_if (without f q n) ≡ 0 = ap one_if (without_itself f q n e) in
        let c : one_if (q n) ≡ 1 = ap one_if (ap q e ∙ p) in
        omega (arith, a, b, c)
    go (inr e) rest =
        let a = rest (omega (arith, e)) p in
        let b : one_if (without f q n) ≡ one_if (q n) = ap one_if (without_other f q n e) in
        omega (arith, a, b)

-- counting places of a list
pub below_places : {X : Type 0} (p : X → Bool) (xs : List X) (d : X) (n : ℕ) → n ≤ length xs → below (λ k. p (slice_index_or xs k d)) n ≡ count_by p (take n xs)
below_places p xs d zero h = refl
below_places p xs d (suc n) h =
    let a = below_places p xs d n (omega arith) in
    let b = sum_by_more (λ x. cond (p x) 1 0) xs n d (omega arith) in
    ap (λ m. m + one_if (p (slice_index_or xs n d))) a ∙ sym b ∙ ap (λ m. count_by p (take m xs)) (add-one n)
