-- Laws of rows: their order by places, and sums of rows laid behind one another.
use Rattle.std.specs.Prelude.{◌≡◌, ℕ, ◌+◌, ◌-◌, ◌*◌, ◌<◌, ◌≤◌, max, [], ◌∷◌, ◌++◌, length, slice_index, refl}
use Rattle.std.specs.declared.cmp.Ordering.{Ordering}
use Rattle.std.proofs.Common.{sym, ◌∙◌, ap, ap₂, inl, inr, ⊎_elim, le_trans, mul-le-mul_right, arith, length-append}
use Rattle.std.proofs.Math.Nat.{le-max_left, le-max_right}
use Rattle.std.proofs.lemmas.List.{get_or_append_left, get_or-append_right, replicate-append-replicate}
use Rattle.std.proofs.lemmas.Bool.{cases_lt}
use Rattle.std.specs.Ordering.{ordering_then}
use Rattle.cost.specs.Adding.{Allowed}
use Rattle.cost.specs.Orders.{Orders}
use Rattle.cost.specs.Rows.{Row, Less, plus, zeros}

-- a difference in the front stays, whatever stands behind
pub less_front : (a b c d : Row) → Less a b → Less (a ++ c) (b ++ d)
less_front [] b c d h = absurd h
less_front (x ∷ a) [] c d h = absurd h
less_front (x ∷ a) (y ∷ b) c d (inl h) = inl h
less_front (x ∷ a) (y ∷ b) c d (inr h) = inr (h.0, less_front a b c d h.1)

-- a difference behind one front stays
pub less_behind : (a c d : Row) → Less c d → Less (a ++ c) (a ++ d)
less_behind [] c d h = h
less_behind (x ∷ a) c d h = inr (refl, less_behind a c d h)

orders_then : (o p : Ordering) (a b c d : Row) → Orders o a b → Orders p c d → Orders (ordering_then o p) (a ++ c) (b ++ d)
orders_then Ordering.Less p a b c d h k = less_front a b c d h
orders_then Ordering.Equal Ordering.Less a b c d h k = rw h (less_behind b c d k)
orders_then Ordering.Equal Ordering.Equal a b c d h k = ap₂ (λ x y. x ++ y) h k
orders_then Ordering.Equal Ordering.Greater a b c d h k = rw h (less_behind b d c k)
orders_then Ordering.Greater p a b c d h k = less_front b a d c h

-- rows laid behind one another have the order of the first, unless that is equal
pub orders_append : (o p r : Ordering) (a b c d : Row) → Orders o a b → Orders p c d → r ≡ ordering_then o p → Orders r (a ++ c) (b ++ d)
orders_append o p r a b c d h k e = rw e (orders_then o p a b c d h k)

-- rows laid behind one another are added part by part
pub plus-append : (a b c d : Row) → length a ≡ length b → plus (a ++ c) (b ++ d) ≡ plus a b ++ plus c d
plus-append [] [] c d h = refl
plus-append [] (y ∷ b) c d h = absurd (omega arith)
plus-append (x ∷ a) [] c d h = absurd (omega arith)
plus-append (x ∷ a) (y ∷ b) c d h = let e : length a ≡ length b = omega arith in ap (λ z. (x + y) ∷ z) (plus-append a b c d e)

-- the sum of rows laid behind one another, from the sums of the parts
pub sums_append : (n : ℕ) (a b c d x y : Row) → length a ≡ n → length b ≡ n → x ≡ plus a b → y ≡ plus c d → x ++ y ≡ plus (a ++ c) (b ++ d)
sums_append n a b c d x y h k p q = ap₂ (λ s t. s ++ t) p q ∙ sym (plus-append a b c d (h ∙ sym k))

pub lengths_append : (a b : Row) (m n : ℕ) → length a ≡ m → length b ≡ n → length (a ++ b) ≡ m + n
lengths_append a b m n p q = length-append a b ∙ ap₂ (λ s t. s + t) p q

pub zeros-append : (a b : Row) (m n : ℕ) → a ≡ zeros m → b ≡ zeros n → a ++ b ≡ zeros (m + n)
zeros-append a b m n p q = ap₂ (λ s t. s ++ t) p q ∙ replicate-append-replicate m n 0

-- what two kinds of additions allow, laid behind one another, the larger number of additions allows
pub allowed_append : (a b : Row) (p q : ℕ) (f g : ℕ → ℕ → Row) → ((u d : ℕ) → length (f u d) ≡ length a) → Allowed a p f → Allowed b q g → Allowed (a ++ b) (max p q) (λ u d. f u d ++ g u d)
allowed_append a b p q f g e left right k m h = ⊎_elim inside behind (cases_lt k (length a))
  where
    inside : k < length a → slice_index (a ++ b) k ≤ max p q * m
    inside l =
        rw (get_or_append_left a b 0 k l)
        (le_trans (left k m (λ u d hu hd. let l' : k < length (f u d) = rw (e u d) l in rw (get_or_append_left (f u d) (g u d) 0 k l') at (h u d hu hd))) (mul-le-mul_right m (le-max_left p q)))

    behind : length a ≤ k → slice_index (a ++ b) k ≤ max p q * m
    behind l =
        rw (get_or-append_right a b (length a) k 0 refl l)
        (le_trans (right (k - length a) m (λ u d hu hd. rw (get_or-append_right (f u d) (g u d) (length a) k 0 (e u d) l) at (h u d hu hd))) (mul-le-mul_right m (le-max_right p q)))
