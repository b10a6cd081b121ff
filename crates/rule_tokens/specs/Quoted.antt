-- A text in quotes.
use Rattle.std.specs.Prelude.{◌≤◌, ℕ, ◌/◌, ◌%◌, true, Option, Some, None, List, [], ◌∷◌, ◌++◌, length, ◌==◌, nat_lt, if◌then◌else◌, encode_utf8_all}
use Rattle.std.specs.Char.{digit_char, is_ascii_control}
use Rattle.std.specs.Str.{chars}
use Rattle.rule_tokens.specs.Cases.{ReadsTo}

-- a number below 256 in lower-case hexadecimal digits, without leading zeros
abbrev pub hex : ℕ → List ℕ
hex n = if nat_lt n 16 then digit_char (n % 16) ∷ [] else digit_char (n / 16) ∷ digit_char (n % 16) ∷ []

-- the character behind the backslash of a short escape: \\ \" \n \r \t
abbrev pub short_letter : ℕ → Option ℕ
short_letter c = if c == 92 then Some 92
    else (if c == 34 then Some 34 else (if c == 10 then Some 110 else (if c == 13 then Some 114 else (if c == 9 then Some 116 else None))))

-- a character that has no short escape: a control character by its number, another as it stands
abbrev pub escape_by : Option ℕ → ℕ → List ℕ
escape_by (Some d) c = 92 ∷ d ∷ []
escape_by None c = if is_ascii_control c then 92 ∷ 117 ∷ 123 ∷ (hex c ++ 125 ∷ []) else c ∷ []

-- how a character stands between quotes
unfoldable pub escape : ℕ → List ℕ
escape c = escape_by (short_letter c) c

-- the bytes of characters with their escapes
abbrev pub escaped : List ℕ → List ℕ
escaped [] = []
escaped (c ∷ cs) = encode_utf8_all (escape c) ++ escaped cs

-- a text in quotes
abbrev pub in_quotes : List ℕ → List ℕ
in_quotes text = 34 ∷ (escaped (chars text) ++ 34 ∷ [])

-- the text in quotes is a line that says one token, which says the text
abbrev pub IsReadBack : List ℕ → List ℕ → Type 0
IsReadBack text t = (limit : ℕ) → length t ≤ limit → ReadsTo limit t (Some (record { quoted = true; text = text } ∷ []))
