use Rattle.std.proofs.Common.{length, sym, ◌∙◌, inl, inr, arith}
use Rattle.std.proofs.lemmas.Bool.{eqb-true, eqb-false}
use Rattle.text.proofs.Spelling.{number_some, number_short, number_first, number_digits, front_small, spelt_value}
use Rattle.text.proofs.number.number.Goals as goal

pub returns-then-is_empty : goal.returns-then-is_empty
returns-then-is_empty c =
    let f = c.args.field.now in
    record {
      cases = λ n.
          elim c.then-is_empty.either [
            | inl e ↦ omega (arith, number_some f n, eqb-true (length f) 0 (sym c.is_empty.ensures ∙ e))
            | inr e ↦ omega (arith, number_short f n)
          ];
    }

pub returns-then-field-gt1 : goal.returns-then-field-gt1
returns-then-field-gt1 c = record { cases = λ n. omega (arith, number_first c.args.field.now n c.if-field-eq48.true) }

pub returns-then-not-is_ascii_digit : goal.returns-then-not-is_ascii_digit
returns-then-not-is_ascii_digit c =
    record { cases = λ n. omega (arith, c.if-not-is_ascii_digit.ensures.cases, number_digits c.args.field.now n c.loop-digit.digit-index c.loop-digit-test.true) }

pub overflow_mul-value : goal.overflow_mul-value
overflow_mul-value c =
    omega (arith, c.loop-digit.invariant.1, front_small c.args.field.now c.loop-digit.digit-index c.loop-digit.invariant.0 (omega arith) (omega arith))

pub overflow_add-value : goal.overflow_add-value
overflow_add-value c =
    omega (arith, c.loop-digit.invariant.1, front_small c.args.field.now c.loop-digit.digit-index c.loop-digit.invariant.0 (omega arith) (omega arith))

pub returns : goal.returns
returns c =
    let f = c.args.field.now in
    record {
      cases = spelt_value f c.loop-digit.digit-index c.loop-digit.value c.loop-digit.invariant.0 c.loop-digit-test.false c.loop-digit.invariant.1 (omega (arith, eqb-false (length f) 0 (sym c.if-is_empty.ensures))) c.if-field-gt-MOST_DIGITS.false (λ e. omega arith);
    }
