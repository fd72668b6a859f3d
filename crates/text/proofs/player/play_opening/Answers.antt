use Rattle.std.proofs.Common.{Some, None, string_bytes}
use Rattle.turns.specs.Sectors.{limits_of}
use Rattle.plan.specs.Studies.{begun}
use Rattle.text.specs.Runs.{moment}
use Rattle.text.specs.declared.reply.Reply.TheVariants.{Done}
use Rattle.text.proofs.Playing.{went_more}
use Rattle.text.proofs.player.play_opening.Goals as goal

pub returns-in-Ok : goal.returns-in-Ok
returns-in-Ok c =
    let h = c.in-Some.ensures.steps in
    record {
      cases = λ rows size. went_more rows size (moment None c.args.lines.now (string_bytes c.args.text.now)) (moment None c.loop-bytes.lines (string_bytes c.loop-bytes.text)) (moment (Some (begun (limits_of c.in-Ok.limits) rows size)) c.next.new.self (string_bytes c.put.new.text)) c.in-Some.bytes.now c.in-Some.number Done (c.loop-bytes.invariant rows size) h.0 h.1 h.2 c.in_ok-put-in-Ok.ensures.bytes (c.in-Ok.ensures.cases rows size c.in-Some.number);
    }

pub loop-bytes-preserved : goal.loop-bytes-preserved
loop-bytes-preserved c rows size =
    let h = c.in-Some.ensures.steps in
    went_more rows size (moment None c.args.lines.now (string_bytes c.args.text.now)) (moment None c.loop-bytes.lines (string_bytes c.loop-bytes.text)) (moment None c.next.new.self (string_bytes c.put-in-Err.new.text)) c.in-Some.bytes.now c.in-Some.number _ (c.loop-bytes.invariant rows size) h.0 h.1 h.2 c.in_ok-put-in-Err.ensures.bytes (c.in-Err.ensures.cases rows size c.in-Some.number)
