use Rattle.std.proofs.Common.{ℕ, length, None, string_bytes}
use Rattle.text.specs.Runs.{Went, left_of, moment}
use Rattle.text.proofs.player.play_opening.Given as goal

abbrev pub invariant-loop-bytes : goal.invariant-loop-bytes
invariant-loop-bytes l = (rows size : ℕ) → Went rows size (moment None l.initial.lines (string_bytes l.initial.text)) (moment None l.lines (string_bytes l.text))

abbrev pub decreases-loop-bytes : goal.decreases-loop-bytes
decreases-loop-bytes l = length (left_of l.lines)
