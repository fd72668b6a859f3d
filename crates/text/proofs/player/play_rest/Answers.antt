use Rattle.std.proofs.Common.{◌≡◌, ℕ, List, [], ◌∷◌, ◌++◌, string_bytes, refl}
use Rattle.std.proofs.lemmas.Result.{MatchResult-from_err}
use Rattle.text.specs.Plays.{numbered}
use Rattle.text.specs.Replies.{reply_text}
use Rattle.text.proofs.Playing.{Rest, rest_more}
use Rattle.text.proofs.player.play_rest.Goals as goal
use Rattle.text.proofs.player.play_rest.Goals.{After-answer_line-answer}

-- the line is played, whether its reply is written or not
answered : (c : After-answer_line-answer) (text : List ℕ) → text ≡ string_bytes c.loop-bytes.text ++ (reply_text (numbered c.answer_line-answer.result c.in-Some.number) ++ (10 ∷ [])) → Rest c.args.drawing.now c.args.sheet.now c.args.lines (string_bytes c.args.text.now) c.answer_line-answer.new.drawing c.answer_line-answer.new.sheet c.next.new.self text
answered c text more =
    let h = c.in-Some.ensures.steps in
    let a = c.answer_line-answer.ensures in
    rest_more c.args.drawing.now c.loop-bytes.drawing c.answer_line-answer.new.drawing c.args.sheet.now c.loop-bytes.sheet c.answer_line-answer.new.sheet c.args.lines c.loop-bytes.bytes-iterator c.next.new.self (string_bytes c.args.text.now) (string_bytes c.loop-bytes.text) c.in-Some.bytes.now c.in-Some.number (numbered c.answer_line-answer.result c.in-Some.number) text c.loop-bytes.invariant h.0 h.1 h.2 more (λ rows size. a.cases rows size c.in-Some.number) a.over a.lender

pub loop-bytes-preserved : goal.loop-bytes-preserved
loop-bytes-preserved c = answered (goal.at.loop-bytes-preserved c).After-answer_line-answer (string_bytes c.put.new.text) c.in_ok-put.ensures.bytes

pub returns-in_err-put-clause-cases : goal.returns-in_err-put-clause-cases
returns-in_err-put-clause-cases c rows size =
    let r = answered (goal.at.returns-in_err-put-clause-cases c).After-answer_line-answer _ refl in
    MatchResult-from_err c.from_residual.result _ _ c.from_residual.ensures.0 (λ e. (_, _, _, r.went rows size))
