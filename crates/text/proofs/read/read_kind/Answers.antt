use Rattle.std.proofs.lemmas.Result.{err_from_is_err_and}
use Rattle.text.proofs.Reading.{no_field, no_word, not_now}
use Rattle.text.proofs.read.read_kind.Goals as goal

pub returns-in_default : goal.returns-in_default
returns-in_default c = record { cases = no_field c.args.started _ c.in_default.ensures.steps.0 }

pub returns-in_err-kind : goal.returns-in_err-kind
returns-in_err-kind c =
    let p = err_from_is_err_and c.from_residual.result c.from_residual.ensures.1 in
    let h = c.in_err-kind.ensures in
    record { cases = rw (p.1, p.2, h.0) (no_word c.args.started _ _ _ c.in-Some.ensures.steps (λ κ may. h.1 κ)) }

pub returns-then-not-may_come : goal.returns-then-not-may_come
returns-then-not-may_come c =
    let never = not_now c.args.started c.in_ok-kind.kind _ c.in_ok-kind.ensures c.if-not-may_come.ensures.cases in
    record { cases = no_word c.args.started _ _ _ c.in-Some.ensures.steps never }
