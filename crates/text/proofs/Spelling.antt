-- Numbers as fields: what a number's text is made of, and which texts are a number's.
use Rattle.std.proofs.Common.{◌≡◌, ℕ, ◌+◌, ◌-◌, ◌*◌, ◌<◌, ◌≤◌, ◌⊎◌, List, length, get_or, take, decimal, sym, ap, ◌∙◌, inl, inr, arith}
use Rattle.std.specs.Str.Parse.{digits_value}
use Rattle.std.specs.Int.{IsInRange}
use Rattle.std.proofs.lemmas.Fmt.{decimal_digit, decimal_nonempty, length-decimal-le, first_decimal, digits_decimal, decimal-digits_value}
use Rattle.std.proofs.lemmas.Int.Digits.{digits_value_more}
use Rattle.std.proofs.lemmas.List.{get_or-take, length-take, take_all}
use Rattle.std.proofs.lemmas.Str.Parse.{IsNumeralModel, numerals_by_value, tells_by_index, digits_value_short}
use Rattle.std.proofs.lemmas.Bool.{cases_eq}
use Rattle.std.proofs.lemmas.Str.{digit_value_digit}
use Rattle.text.specs.Numbers.{Number, Spelt}

-- each byte below i is a digit
abbrev pub DigitsTo : List ℕ → ℕ → Type 0
DigitsTo f i = (k : ℕ) → k < i → IsInRange 48 57 (get_or f k 0)

by_index : IsNumeralModel (λ ds. DigitsTo ds (length ds)) (digits_value 10)
by_index = numerals_by_value _ tells_by_index

-- a number's text is not empty
pub number_some : (f : List ℕ) → Number f → 0 < length f
number_some f (n, (small, e)) = rw e (decimal_nonempty n (omega arith))

pub number_short : (f : List ℕ) → Number f → length f ≤ 6
number_short f (n, (small, e)) = rw e (length-decimal-le 6 n (omega arith) (omega arith) (omega arith))

-- it begins with a zero only where it is one
pub number_first : (f : List ℕ) → Number f → get_or f 0 0 ≡ 48 → length f ≤ 1
number_first f (n, (small, e)) z = go (cases_eq n 0)
  where
    go : (n ≡ 0) ⊎ (n ≡ 0 → ⊥) → length f ≤ 1
    go (inl none) = rw (e, none, decimal_digit 0 (omega arith)) (omega arith)
    go (inr some) = absurd (omega (arith, first_decimal n (omega arith) (omega arith), ap (λ (xs : List ℕ). get_or xs 0 0) e))

pub number_digits : (f : List ℕ) → Number f → DigitsTo f (length f)
number_digits f (n, (small, e)) = rw e (digits_decimal by_index n (omega arith))

module _ (f : List ℕ) (i : ℕ) (digits : DigitsTo f i) where
  -- the number that the digits below i spell
  pub front_small : i < length f → length f ≤ 6 → digits_value 10 (take i f) < 100000
  front_small h short =
      let size : length (take i f) ≤ 5 = omega (arith, length-take i f) in
      let inner : DigitsTo (take i f) (length (take i f)) =
      (λ k below. let in' : k < i = omega (arith, length-take i f) in rw (get_or-take i f k 0 in') (digits k in')) in
      digits_value_short by_index (take i f) 5 inner size

  pub front_more : i < length f → IsInRange 48 57 (get_or f i 0) → digits_value 10 (take (i + 1) f) ≡ digits_value 10 (take i f) * 10 + (get_or f i 0 - 48)
  front_more h here = rw (digits_value_more 10 f i h) (omega (arith, digit_value_digit (get_or f i 0) here))

-- few enough digits, with no zero in front of another, are a number's text
pub spelt_value : (f : List ℕ) (i n : ℕ) → DigitsTo f i → length f ≤ i → n ≡ digits_value 10 (take i f) → 0 < length f → length f ≤ 6 → (get_or f 0 0 ≡ 48 → length f ≤ 1) → Spelt f n
spelt_value f i n digits all is some short first =
    let whole : n ≡ digits_value 10 f = is ∙ ap (digits_value 10) (take_all i f all) in
    let each : DigitsTo f (length f) = λ k below. digits k (omega arith) in
    let small = digits_value_short by_index f 6 each short in
    let back = decimal-digits_value by_index f each some (λ e. omega (arith, first e)) (omega arith) in
    (omega arith, sym back ∙ ap decimal (sym whole))
