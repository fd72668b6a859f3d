-- Turns: the angle between two bearings, and its class.
--
-- Glossary
--   bearing                 a whole number of degrees from 0 to 359, clockwise from north
--   moved d                 the difference d of two bearings, moved by 360 where needed into -179 to 180
--   angle arriving leaving  the angle of the turn from an edge that arrives on one bearing to an edge that leaves on the other; above zero is right
--   side a right left       which of two classes an angle a has by its sign
--   class_of l a            the class of the angle a under the limits l
--   class_code c            the number of the class c, 0 to 6
--   turn_answer l arriving leaving   what asking for a turn answers: the angle with its class, or the bearing above 359, the leaving one first
--   code_answer             the number that the drawing editor gets for two bearings and three limits: a class code, or 255
-- Assumes nothing.
use Rattle.std.specs.Prelude.{ℕ, cond, ℤ, pos, negsuc, ◌+ℤ◌, ◌-ℤ◌, Ok, Err, Result, int_lt, nat_le, nat_lt, unsigned_abs}
use Rattle.turns.specs.Sectors.{Limits, limits_answer}
use Rattle.turns.specs.declared.class.Class.{Class}
use Rattle.turns.specs.declared.class.Class.TheVariants.{Straight, BearRight, Right, SharpRight, BearLeft, Left, SharpLeft}
use Rattle.turns.specs.declared.fault.PlanFault.{PlanFault}
use Rattle.turns.specs.declared.fault.PlanFault.TheVariants.{BadBearing}

abbrev pub moved : ℤ → ℤ
moved d = cond (int_lt (pos 180) d) (d -ℤ pos 360) (cond (int_lt d (negsuc 178)) (d +ℤ pos 360) d)

abbrev pub angle : ℕ → ℕ → ℤ
angle arriving leaving = moved (pos leaving -ℤ pos arriving)

abbrev pub side : ℤ → Class → Class → Class
side a right left = cond (int_lt a (pos 0)) left right

abbrev pub class_of : Limits → ℤ → Class
class_of l a =
    cond (nat_le (unsigned_abs a) l.s) Straight
    (cond (nat_le (unsigned_abs a) l.b) (side a BearRight BearLeft)
    (cond (nat_le (unsigned_abs a) l.h) (side a Right Left)
    (side a SharpRight SharpLeft)))

abbrev pub class_code : Class → ℕ
class_code Straight = 0
class_code BearRight = 1
class_code Right = 2
class_code SharpRight = 3
class_code BearLeft = 4
class_code Left = 5
class_code SharpLeft = 6

abbrev pub turn_answer : Limits → ℕ → ℕ → Result (ℤ × Class) PlanFault
turn_answer l arriving leaving =
    cond (nat_lt 359 leaving) (Err (BadBearing leaving))
    (cond (nat_lt 359 arriving) (Err (BadBearing arriving))
    (Ok (angle arriving leaving, class_of l (angle arriving leaving))))

abbrev pub turn_code : Result (ℤ × Class) PlanFault → ℕ
turn_code (Ok t) = class_code t.1
turn_code (Err f) = 255

abbrev pub code_under : Result Limits PlanFault → ℕ → ℕ → ℕ
code_under (Ok l) arriving leaving = turn_code (turn_answer l arriving leaving)
code_under (Err f) arriving leaving = 255

abbrev pub code_answer : ℕ → ℕ → ℕ → ℕ → ℕ → ℕ
code_answer arriving leaving s b h = code_under (limits_answer s b h) arriving leaving
