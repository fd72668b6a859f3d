use Rattle.std.proofs.Common.{length, string_bytes, rules}
use Rattle.turns.specs.Sectors.{limits_of}
use Rattle.text.proofs.Playing.{play_new}
use Rattle.text.proofs.player.play_drawn.Goals as goal

pub returns : goal.returns
returns c =
    let new = c.new-drawing.ensures in
    let rest = c.play_rest-played.ensures in
    record {
      cases = λ size. play_new c.args.rows.now _ c.new-drawing.result c.play_rest-played.new.drawing (limits_of c.args.limits) c.args.sheet.now c.play_rest-played.new.sheet c.args.lines (string_bytes c.args.text.now) (string_bytes c.play_rest-played.new.text) c.play_rest-played.result size new.limits new.edges new.rows new.spare (search rules) rest.over (rest.cases (length c.args.rows.now) size);
    }
