use Rattle.std.proofs.Common.{◌≡◌, ℕ, ◌<◌, get_or, take}
use Rattle.std.specs.Int.{IsInRange}
use Rattle.std.specs.Str.Parse.{digits_value}
use Rattle.text.proofs.number.number.Given as goal

abbrev pub invariant-loop-digit : goal.invariant-loop-digit
invariant-loop-digit l =
    ((k : ℕ) → k < l.digit-index → IsInRange 48 57 (get_or l.field k 0)) × (l.value ≡ digits_value 10 (take l.digit-index l.field))
