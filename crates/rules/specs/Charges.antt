-- Words that the charges of turn rules share.
--
-- Glossary
--   below q n           how many of the numbers 0 to n - 1 pass the test q
--   alike c d           whether two classes are the same
--   straight p e f      whether the turn from e to f is straight
--   in_class p e c g    whether a step leads from e to g and is of the class c
--   at_steps p e f x    the charge x where a step leads from e to f, and 0 where none does
-- Assumes nothing.
use Rattle.std.specs.Prelude.{ℕ, zero, suc, ◌+◌, Bool, cond, ◌&&◌, ◌==◌}
use Rattle.turns.specs.Turns.{class_code}
use Rattle.turns.specs.declared.class.Class.{Class}
use Rattle.turns.specs.declared.class.Class.TheVariants.{Straight}
use Rattle.plan.specs.Plans.{Plan, steps, step_class}

abbrev pub below : (ℕ → Bool) → ℕ → ℕ
below q zero = 0
below q (suc n) = below q n + cond (q n) 1 0

abbrev pub alike : Class → Class → Bool
alike c d = class_code c == class_code d

abbrev pub straight : Plan → ℕ → ℕ → Bool
straight p e f = alike (step_class p e f) Straight

abbrev pub in_class : Plan → ℕ → Class → ℕ → Bool
in_class p e c g = steps p e g && alike (step_class p e g) c

abbrev pub at_steps : Plan → ℕ → ℕ → ℕ → ℕ
at_steps p e f x = cond (steps p e f) x 0
