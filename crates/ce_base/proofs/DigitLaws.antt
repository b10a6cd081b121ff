-- One to nine digits are the text of a number, which is small.
use Rattle.std.proofs.Common.{◌≡◌, ◌<◌, ◌≤◌, ◌^◌, ℕ, true, List, length, Ok, rules, arith}
use Rattle.std.proofs.lemmas.Bool.Decides.{nat_tests}
use Rattle.std.proofs.lemmas.Str.Parse.{IsDigitsTest, IsNumeralModel, numerals_by_value, digits_value_short, parse_gives}
use Rattle.std.specs.Char.{is_ascii_digit}
use Rattle.std.specs.List.{list_all}
use Rattle.std.specs.Prelude.{Result}
use Rattle.std.specs.Str.Parse.{digits_value, ParsesUnsigned}
use Rattle.ce_base.specs.Digits.{is_numeral}

-- all of them are digits, as `parse` reads them
digits : IsDigitsTest (λ ds. list_all is_ascii_digit ds ≡ true)
digits = search rules

numerals : IsNumeralModel (λ ds. list_all is_ascii_digit ds ≡ true) (digits_value 10)
numerals = numerals_by_value _ digits

numeral_some : (text : List ℕ) → is_numeral text ≡ true → 0 < length text
numeral_some text is = grind (arith, nat_tests)

numeral_few : (text : List ℕ) → is_numeral text ≡ true → length text ≤ 9
numeral_few text is = grind (arith, nat_tests)

numeral_digits : (text : List ℕ) → is_numeral text ≡ true → list_all is_ascii_digit text ≡ true
numeral_digits text is = grind (arith, nat_tests)

pub numeral_small : (text : List ℕ) → is_numeral text ≡ true → digits_value 10 text < 10 ^ 9
numeral_small text is = digits_value_short numerals text 9 (numeral_digits text is) (numeral_few text is)

pub numeral_parses : {E : Type 0} (text : List ℕ) (r : Result ℕ E) → is_numeral text ≡ true → ParsesUnsigned 32 10 text r → r ≡ Ok (digits_value 10 text)
numeral_parses text r is parsed = parse_gives numerals 32 text r parsed (numeral_digits text is) (numeral_some text is) (omega (arith, numeral_small text is))
