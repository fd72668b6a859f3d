-- The order of rows, and what adding does to it.
-- Assumes nothing.
use Rattle.std.proofs.Common.{◌≡◌, ℕ, zero, suc, ◌+◌, ◌<◌, ◌⊎◌, List, [], ◌∷◌, length, sym, refl, ap, ◌∙◌, subst, ap₂, subst₂, inl, inr, add-zero, add_assoc, add_comm, arith}
use lib.ListN.{length-replicate}
use Rattle.std.proofs.lemmas.Bool.{cases_order}
use Rattle.cost.specs.Rows.{Less, plus, zeros}
use Rattle.walks.specs.Laws.{RowLaws}

pub less_irrefl : (a : List ℕ) → Less a a → ⊥
less_irrefl [] l = l
less_irrefl (x ∷ a) (inl l) = omega arith
less_irrefl (x ∷ a) (inr p) = less_irrefl a p.1

pub less_trans : (a b c : List ℕ) → Less a b → Less b c → Less a c
less_trans [] b c l m = absurd l
less_trans (x ∷ a) [] c l m = absurd l
less_trans (x ∷ a) (y ∷ b) [] l m = absurd m
less_trans (x ∷ a) (y ∷ b) (z ∷ c) (inl p) (inl q) = inl (omega arith)
less_trans (x ∷ a) (y ∷ b) (z ∷ c) (inl p) (inr q) = inl (omega arith)
less_trans (x ∷ a) (y ∷ b) (z ∷ c) (inr p) (inl q) = inl (omega arith)
less_trans (x ∷ a) (y ∷ b) (z ∷ c) (inr p) (inr q) = inr (p.0 ∙ q.0, less_trans a b c p.1 q.1)

pub less_asym : (a b : List ℕ) → Less a b → Less b a → ⊥
less_asym a b l m = less_irrefl a (less_trans a b a l m)

pub less_differ : (a b : List ℕ) → Less a b → a ≡ b → ⊥
less_differ a b l e = less_irrefl b (subst (λ r. Less r b) e l)

pub less_total : (a b : List ℕ) → length a ≡ length b → Less a b ⊎ ((a ≡ b) ⊎ Less b a)
less_total [] [] e = inr (inl refl)
less_total [] (y ∷ b) e = absurd (omega arith)
less_total (x ∷ a) [] e = absurd (omega arith)
less_total (x ∷ a) (y ∷ b) e = go (cases_order x y) (less_total a b (omega arith))
  where
    go :
        (x ≡ y) ⊎ ((x < y) ⊎ (y < x)) → Less a b ⊎ ((a ≡ b) ⊎ Less b a)
        → Less (x ∷ a) (y ∷ b) ⊎ (((x ∷ a) ≡ (y ∷ b)) ⊎ Less (y ∷ b) (x ∷ a))
    go (inl p) (inl l) = inl (inr (p, l))
    go (inl p) (inr (inl q)) = inr (inl (ap₂ ◌∷◌ p q))
    go (inl p) (inr (inr l)) = inr (inr (inr (sym p, l)))
    go (inr (inl p)) r = inl (inl p)
    go (inr (inr p)) r = inr (inr (inl p))

pub plus_none : (a : List ℕ) → plus a [] ≡ a
plus_none [] = refl
plus_none (x ∷ a) = refl

pub plus_comm : (a b : List ℕ) → plus a b ≡ plus b a
plus_comm [] b = sym (plus_none b)
plus_comm (x ∷ a) [] = refl
plus_comm (x ∷ a) (y ∷ b) = ap₂ ◌∷◌ (add_comm x y) (plus_comm a b)

pub plus_assoc : (a b c : List ℕ) → plus (plus a b) c ≡ plus a (plus b c)
plus_assoc [] b c = refl
plus_assoc (x ∷ a) [] c = refl
plus_assoc (x ∷ a) (y ∷ b) [] = refl
plus_assoc (x ∷ a) (y ∷ b) (z ∷ c) = ap₂ ◌∷◌ (add_assoc x y z) (plus_assoc a b c)

pub length-plus : (n : ℕ) (a b : List ℕ) → length a ≡ n → length b ≡ n → length (plus a b) ≡ n
length-plus n [] b p q = q
length-plus n (x ∷ a) [] p q = p
length-plus zero (x ∷ a) (y ∷ b) p q = absurd (omega arith)
length-plus (suc n) (x ∷ a) (y ∷ b) p q = ap suc (length-plus n a b (omega arith) (omega arith))

pub length-zeros : (n : ℕ) → length (zeros n) ≡ n
length-zeros n = length-replicate n 0

pub plus-zeros : (n : ℕ) (a : List ℕ) → length a ≡ n → plus a (zeros n) ≡ a
plus-zeros zero [] p = refl
plus-zeros zero (x ∷ a) p = absurd (omega arith)
plus-zeros (suc n) [] p = absurd (omega arith)
plus-zeros (suc n) (x ∷ a) p = ap₂ ◌∷◌ (add-zero x) (plus-zeros n a (omega arith))

pub zeros-plus : (n : ℕ) (a : List ℕ) → length a ≡ n → plus (zeros n) a ≡ a
zeros-plus n a p = plus_comm (zeros n) a ∙ plus-zeros n a p

-- adding the same on the right, or on the left, keeps the order
pub less_plus : (a b c : List ℕ) → Less a b → Less (plus a c) (plus b c)
less_plus [] b c l = absurd l
less_plus (x ∷ a) [] c l = absurd l
less_plus (x ∷ a) (y ∷ b) [] l = l
less_plus (x ∷ a) (y ∷ b) (z ∷ c) (inl p) = inl (omega arith)
less_plus (x ∷ a) (y ∷ b) (z ∷ c) (inr p) = inr (ap (λ n. n + z) p.0, less_plus a b c p.1)

pub less_plus_left : (a b c : List ℕ) → Less a b → Less (plus c a) (plus c b)
less_plus_left a b c l = subst₂ Less (plus_comm a c) (plus_comm b c) (less_plus a b c l)

-- and what is in order after it was so before
pub less_from_plus : (a b c : List ℕ) → length a ≡ length b → Less (plus a c) (plus b c) → Less a b
less_from_plus a b c e l = go (less_total a b e)
  where
    go : Less a b ⊎ ((a ≡ b) ⊎ Less b a) → Less a b
    go (inl m) = m
    go (inr (inl p)) = absurd (less_differ (plus a c) (plus b c) l (ap (λ r. plus r c) p))
    go (inr (inr m)) = absurd (less_asym (plus a c) (plus b c) l (less_plus b a c m))

pub same_from_plus : (a b c : List ℕ) → length a ≡ length b → plus a c ≡ plus b c → a ≡ b
same_from_plus a b c e p = go (less_total a b e)
  where
    go : Less a b ⊎ ((a ≡ b) ⊎ Less b a) → a ≡ b
    go (inl m) = absurd (less_differ (plus a c) (plus b c) (less_plus a b c m) p)
    go (inr (inl q)) = q
    go (inr (inr m)) = absurd (less_differ (plus b c) (plus a c) (less_plus b a c m) (sym p))

pub plus_not_less : (a b : List ℕ) → Less (plus a b) a → ⊥
plus_not_less [] [] l = l
plus_not_less [] (y ∷ b) l = l
plus_not_less (x ∷ a) [] l = less_irrefl (x ∷ a) l
plus_not_less (x ∷ a) (y ∷ b) (inl p) = omega arith
plus_not_less (x ∷ a) (y ∷ b) (inr p) = plus_not_less a b p.1

-- a sum is the first row or comes after it
pub plus_above : (n : ℕ) (a b : List ℕ) → length a ≡ n → length b ≡ n → (a ≡ plus a b) ⊎ Less a (plus a b)
plus_above n a b p q = go (less_total a (plus a b) (p ∙ sym (length-plus n a b p q)))
  where
    go : Less a (plus a b) ⊎ ((a ≡ plus a b) ⊎ Less (plus a b) a) → (a ≡ plus a b) ⊎ Less a (plus a b)
    go (inl m) = inr m
    go (inr (inl q)) = inl q
    go (inr (inr m)) = absurd (plus_not_less a b m)

pub row_laws : RowLaws
row_laws =
    record {
      irreflexive = less_irrefl;
      transitive = less_trans;
      asymmetric = less_asym;
      total = less_total;
      kept = less_plus;
      kept_left = less_plus_left;
      never_smaller = plus_not_less;
      commutative = plus_comm;
      associative = plus_assoc;
      places = length-plus;
    }

-- Rows first, then numbers of edges, then what breaks the tie: the shape of Precedes and of LabelLess.
abbrev pub Ordered : List ℕ → List ℕ → ℕ → ℕ → Type 0 → Type 0
Ordered r s m n P = Less r s ⊎ ((r ≡ s) × ((m < n) ⊎ ((m ≡ n) × P)))

pub ordered_trans :
    (r s t : List ℕ) (k m n : ℕ) (P Q R : Type 0) → (P → Q → R) → Ordered r s k m P → Ordered s t m n Q → Ordered r t k n R
ordered_trans r s t k m n P Q R f (inl l) (inl j) = inl (less_trans r s t l j)
ordered_trans r s t k m n P Q R f (inl l) (inr q) = inl (subst (Less r) q.0 l)
ordered_trans r s t k m n P Q R f (inr p) (inl j) = inl (subst (λ u. Less u t) (sym p.0) j)
ordered_trans r s t k m n P Q R f (inr p) (inr q) = inr (p.0 ∙ q.0, go p.1 q.1)
  where
    go :
        (k < m) ⊎ ((k ≡ m) × P) → (m < n) ⊎ ((m ≡ n) × Q)
        → (k < n) ⊎ ((k ≡ n) × R)
    go (inl a) (inl b) = inl (omega arith)
    go (inl a) (inr b) = inl (omega arith)
    go (inr a) (inl b) = inl (omega arith)
    go (inr a) (inr b) = inr (a.0 ∙ b.0, f a.1 b.1)

pub ordered_asym :
    (r s : List ℕ) (m n : ℕ) (P Q : Type 0) → (P → Q → ⊥) → Ordered r s m n P → Ordered s r n m Q → ⊥
ordered_asym r s m n P Q f p q = go (ordered_trans r s r m n m P Q ⊥ f p q)
  where
    go : Ordered r r m m ⊥ → ⊥
    go (inl l) = less_irrefl r l
    go (inr (e, inl l)) = omega arith
    go (inr (e, inr (i, b))) = b
