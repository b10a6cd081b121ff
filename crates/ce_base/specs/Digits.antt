-- Numbers of one to nine ASCII digits.
use Rattle.std.specs.Prelude.{ℕ, Bool, ◌&&◌, nat_le, if◌then◌else◌, List, length, Option, Some, None}
use Rattle.std.specs.Char.{is_ascii_digit}
use Rattle.std.specs.List.{list_all}
use Rattle.std.specs.Str.Parse.{digits_value}

-- one to nine ASCII digits
abbrev pub is_numeral : List ℕ → Bool
is_numeral text = (nat_le 1 (length text) && nat_le (length text) 9) && list_all is_ascii_digit text

-- the number that such a text writes
abbrev pub number_in : List ℕ → Option ℕ
number_in text = if is_numeral text then Some (digits_value 10 text) else None
