-- What adding to a cost allows.
--
-- Glossary
--   addable charge long n   a cost with n additions takes this charge and this length: the charge is at most 1,000,
--                           the length at most 100,000, and it is at most the 1,024th addition
--   Allowed a n f           the row a is no more than n additions allow, where f has what a charge and a length add: at each
--                           place, n times any bound on what a charge and a length that are taken add there
-- Assumes nothing.
use Rattle.std.specs.Prelude.{ℕ, ◌*◌, ◌≤◌, Bool, false, cond, nat_le, nat_lt, slice_index}
use Rattle.cost.specs.Rows.{Row}

abbrev pub addable : ℕ → ℕ → ℕ → Bool
addable charge long n = cond (nat_le charge 1000) (cond (nat_le long 100000) (nat_lt n 1024) false) false

abbrev pub Allowed : Row → ℕ → (ℕ → ℕ → Row) → Type 0
Allowed a n f = (k m : ℕ) → ((charge long : ℕ) → charge ≤ 1000 → long ≤ 100000 → slice_index (f charge long) k ≤ m) → slice_index a k ≤ n * m
