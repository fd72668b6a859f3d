-- Laws of adding: what an addition that is taken says, what it leaves at a clamped place, and that no place passes what its additions allow.
use Rattle.std.specs.Prelude.{◌≡◌, ℕ, ◌+◌, ◌*◌, ◌<◌, ◌≤◌, Bool, true}
use Rattle.std.proofs.Common.{sym, ◌∙◌, le_trans, mul-le-mul_left, mul-le-mul_right, mul-le-mul, add-le-add, add-mul, arith}
use Rattle.std.proofs.Math.Nat.{min-le_right, min-eq_left}
use Rattle.std.proofs.lemmas.Bool.Decides.{nat_tests}
use Rattle.cost.specs.Adding.{addable}
use Rattle.cost.specs.Reading.{count, held}

-- what is taken is within the three limits
pub addable_parts : (u d n : ℕ) → true ≡ addable u d n → (u ≤ 1000) × (d ≤ 100000) × (n < 1024)
addable_parts u d n h = grind (arith, nat_tests)

-- what is within the three limits is taken
pub addable_from : (u d n : ℕ) → u ≤ 1000 → d ≤ 100000 → n < 1024 → true ≡ addable u d n
addable_from u d n h k l = grind (arith, nat_tests)

-- what is taken at n additions is answered yes at fewer
pub addable_fewer : (u d n m : ℕ) (r : Bool) → true ≡ addable u d n → m ≤ n → r ≡ addable u d m → r ≡ true
addable_fewer u d n m r h k e =
    let t = addable_parts u d n h in
    e ∙ sym (addable_from u d m t.0 t.1 (omega arith))

-- a place is within any bound on what one addition adds there, once for each addition
pub held_allowed : (most n x m : ℕ) → most ≤ m → held most n x ≤ count n * m
held_allowed most n x m h = le_trans (min-le_right x (count n * most)) (mul-le-mul_left (count n) h)

-- so it is where what one addition adds there reaches the most
pub held_reached : (most n x m a : ℕ) → a ≡ most → a ≤ m → held most n x ≤ count n * m
held_reached most n x m a e h = held_allowed most n x m (omega (arith, e, h))

pub held_bound : (most n x : ℕ) → held most n x ≤ 1024 * most
held_bound most n x =
    le_trans (min-le_right x (count n * most)) (mul-le-mul_right most (min-le_right n 1024))

-- an amount that one addition may add, added to what a place means, is read in full after that addition
pub held_more : (most n x a t r : ℕ) → t ≡ held most n x → a ≤ most → r ≡ t + a → count n < 1024 → held most (count n + 1) r ≡ r
held_more most n x a t r e k f h =
    let next : count (count n + 1) ≡ count n + 1 = omega arith in
    min-eq_left (rw next (omega (arith, min-le_right x (count n * most), add-mul (count n) 1 most)))

-- a sum of two products is within its bounds
pub products_bound : (a b x y p q m n : ℕ) → a ≤ p → b ≤ q → x ≤ m → y ≤ n → a * x + b * y ≤ p * m + q * n
products_bound a b x y p q m n h k u v = add-le-add (mul-le-mul h u) (mul-le-mul k v)
