use Rattle.std.proofs.Common.{length, string_bytes, arith}
use Rattle.std.proofs.lemmas.Option.{MatchOption-at_none, MatchOption-at_some}
use Rattle.std.proofs.lemmas.Result.{MatchResult-from_err}
use Rattle.turns.specs.Sectors.{limits_of}
use Rattle.text.specs.Pieces.{lines_of}
use Rattle.text.proofs.Playing.{plays_all, plays_none, plays_only, plays_some}
use Rattle.text.proofs.player.play.Goals as goal

pub returns-in-None : goal.returns-in-None
returns-in-None c =
    let all = plays_none c.args.rows.now (length c.args.sheet.now) (lines_of c.args.log.now) c.new-lines.result (string_bytes c.new-text.result) c.new-lines.ensures.left c.new-lines.ensures.taken c.new-text.ensures.bytes (string_bytes c.play_opening.new.text) c.fill.new.self (c.fill.ensures.after (λ y e. e)) (MatchOption-at_none _ _ c.in-None.is (c.in_ok-play_opening.ensures.cases (length c.args.rows.now) (length c.args.sheet.now))) in
    record {
      played = λ short. all;
      only = λ short. plays_only _ _ _ _ _ _ all;
      long = λ long. absurd (omega arith);
    }

pub returns-in_ok-play_drawn-in-Some : goal.returns-in_ok-play_drawn-in-Some
returns-in_ok-play_drawn-in-Some c =
    let all = plays_all c.args.rows.now (length c.args.sheet.now) (lines_of c.args.log.now) c.new-lines.result (string_bytes c.new-text.result) c.new-lines.ensures.left c.new-lines.ensures.taken c.new-text.ensures.bytes (limits_of c.in-Some.limits) c.fill.new.self (c.fill.ensures.after (λ y e. e)) c.play_opening.new.lines (string_bytes c.play_opening.new.text) c.play_drawn.new.rows c.play_drawn.new.sheet (MatchOption-at_some _ _ c.in-Some.limits c.in-Some.is (c.in_ok-play_opening.ensures.cases (length c.args.rows.now) (length c.args.sheet.now))) (string_bytes c.play_drawn.new.text) (c.in_ok-play_drawn-in-Some.ensures.cases (length c.args.sheet.now)) in
    record {
      played = λ short. all;
      only = λ short. plays_only _ _ _ _ _ _ all;
      long = λ long. absurd (omega arith);
    }

pub returns-in_err-play_drawn-in-Some-clause-played : goal.returns-in_err-play_drawn-in-Some-clause-played
returns-in_err-play_drawn-in-Some-clause-played c short =
    MatchResult-from_err c.from_residual-in_err-play_drawn-in-Some.result _ _ c.from_residual-in_err-play_drawn-in-Some.ensures.0 (λ e. plays_some c.args.rows.now (length c.args.sheet.now) (lines_of c.args.log.now) c.new-lines.result (string_bytes c.new-text.result) c.new-lines.ensures.left c.new-lines.ensures.taken c.new-text.ensures.bytes (limits_of c.in-Some.limits) c.fill.new.self (c.fill.ensures.after (λ y e. e)) c.play_opening.new.lines (string_bytes c.play_opening.new.text) c.play_drawn.new.rows c.play_drawn.new.sheet (MatchOption-at_some _ _ c.in-Some.limits c.in-Some.is (c.in_ok-play_opening.ensures.cases (length c.args.rows.now) (length c.args.sheet.now))) (c.in_err-play_drawn-in-Some.ensures.cases (length c.args.sheet.now)))
