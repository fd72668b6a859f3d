use Rattle.std.proofs.Common.{arith}
use Rattle.std.proofs.lemmas.Result.{err_from_is_err_and}
use Rattle.text.proofs.Shaping.{read_miss, read_surplus, read_all}
use Rattle.text.proofs.cursor.Cursor.numbers.Goals as goal

pub returns-in_err-n : goal.returns-in_err-n
returns-in_err-n g c =
    let p = err_from_is_err_and c.from_residual.result c.from_residual.ensures.1 in
    let h = c.in_err-n.ensures.cases in
    record { cases = rw (p.1, p.2, h.0) (read_miss _ _ _ _ _ _ _ c.loop-n.invariant c.loop-n-test.true h.1) }

pub returns-in-None : goal.returns-in-None
returns-in-None g c = record { cases = read_all _ _ _ _ _ _ _ c.loop-n.invariant (omega arith) c.in-None.ensures.steps.0 }

pub returns-in-Some : goal.returns-in-Some
returns-in-Some g c = record { cases = read_surplus _ _ _ _ _ _ _ c.loop-n.invariant (omega arith) _ _ c.in-Some.ensures.steps }
