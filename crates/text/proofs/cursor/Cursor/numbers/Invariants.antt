use Rattle.text.specs.Shapes.{fields_left}
use Rattle.text.proofs.Shaping.{ReadTo}
use Rattle.text.proofs.cursor.Cursor.numbers.Given as goal

abbrev pub invariant-loop-n : goal.invariant-loop-n
invariant-loop-n g l = ReadTo g.row.N l.first (fields_left l.initial.self) (fields_left l.self) l.n-items l.n-index l.place
