-- How many of the numbers below a bound pass a test, and what one change does to it.
-- Assumes nothing.
use Rattle.std.proofs.Common.{◌≡◌, ℕ, zero, suc, ◌+◌, ◌<◌, ◌≤◌, Bool, true, false, cond, ◌⊎◌, sym, refl, ap, ◌∙◌, subst, ap₂, inl, inr, arith}
use Rattle.std.proofs.lemmas.Bool.{cases_eq, true≢false}
use Rattle.walks.specs.Loop.{tally}

one : (b : Bool) → cond b 1 0 ≤ 1
one true = omega arith
one false = omega arith

one_full : (b : Bool) → 1 ≤ cond b 1 0 → b ≡ true
one_full true l = refl
one_full false l = absurd (omega arith)

pub tally_bound : (p : ℕ → Bool) (n : ℕ) → tally p n ≤ n
tally_bound p zero = omega arith
tally_bound p (suc n) = omega (arith, tally_bound p n, one (p n))

pub tally_same : (p q : ℕ → Bool) (n : ℕ) → ((k : ℕ) → k < n → p k ≡ q k) → tally p n ≡ tally q n
tally_same p q zero h = refl
tally_same p q (suc n) h =
    ap₂ ◌+◌ (tally_same p q n (λ k l. h k (omega arith))) (ap (λ (b : Bool). cond b 1 0) (h n (omega arith)))

pub tally_full : (p : ℕ → Bool) (n : ℕ) → tally p n ≡ n → (k : ℕ) → k < n → p k ≡ true
tally_full p zero e k l = absurd (omega arith)
tally_full p (suc n) e k l = go (cases_eq k n) (λ m. tally_full p n (omega (arith, tally_bound p n, one (p n))) k m)
  where
    go : (k ≡ n) ⊎ (k ≡ n → ⊥) → (k < n → p k ≡ true) → p k ≡ true
    go (inl q) f = subst (λ j. p j ≡ true) (sym q) (one_full (p n) (omega (arith, tally_bound p n)))
    go (inr d) f = f (omega arith)

pub tally_short : (p : ℕ → Bool) (n e : ℕ) → e < n → p e ≡ false → tally p n < n
tally_short p n e l f = go (cases_eq (tally p n) n)
  where
    go : (tally p n ≡ n) ⊎ (tally p n ≡ n → ⊥) → tally p n < n
    go (inl q) = absurd (true≢false (sym (tally_full p n q e l) ∙ f))
    go (inr d) = omega (arith, tally_bound p n)

pub tally_more :
    (p q : ℕ → Bool) (n e : ℕ) → e < n → p e ≡ false → q e ≡ true → ((k : ℕ) → (k ≡ e → ⊥) → p k ≡ q k)
    → tally q n ≡ tally p n + 1
tally_more p q zero e l f t h = absurd (omega arith)
tally_more p q (suc n) e l f t h = go (cases_eq e n) (λ m. tally_more p q n e m f t h)
  where
    go : (e ≡ n) ⊎ (e ≡ n → ⊥) → (e < n → tally q n ≡ tally p n + 1) → tally q (suc n) ≡ tally p (suc n) + 1
    go (inl i) r =
        let u : ◌≡◌ {A = ℕ} (cond (p n) 1 0) 0 = ap (λ (b : Bool). cond b 1 0) (subst (λ j. p j ≡ false) i f) in
        let v : ◌≡◌ {A = ℕ} (cond (q n) 1 0) 1 = ap (λ (b : Bool). cond b 1 0) (subst (λ j. q j ≡ true) i t) in
        omega (arith, tally_same p q n (λ k m. h k (λ j. omega arith)))
    go (inr d) r =
        let u : ◌≡◌ {A = ℕ} (cond (p n) 1 0) (cond (q n) 1 0) = ap (λ (b : Bool). cond b 1 0) (h n (λ j. d (sym j))) in
        omega (arith, r (omega arith))

pub tally_none : (p : ℕ → Bool) (n : ℕ) → ((k : ℕ) → k < n → p k ≡ false) → tally p n ≡ 0
tally_none p zero h = refl
tally_none p (suc n) h =
    let u : ◌≡◌ {A = ℕ} (cond (p n) 1 0) 0 = ap (λ (b : Bool). cond b 1 0) (h n (omega arith)) in
    omega (arith, tally_none p n (λ k l. h k (omega arith)))
