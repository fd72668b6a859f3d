use Rattle.std.proofs.Common.{string_bytes}
use Rattle.text.proofs.Playing.{Rest}
use Rattle.text.proofs.player.play_rest.Given as goal

abbrev pub invariant-loop-bytes : goal.invariant-loop-bytes
invariant-loop-bytes l = Rest l.initial.drawing l.initial.sheet l.initial.lines (string_bytes l.initial.text) l.drawing l.sheet l.bytes-iterator (string_bytes l.text)
