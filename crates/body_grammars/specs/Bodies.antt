-- Of which entry lists bytes are the body, one relation for each type (URL Standard, section
-- "application/x-www-form-urlencoded"; HTML Standard, section "Plain text form data"; RFC 7578).
use Rattle.std.specs.Prelude.{◌≡◌, ◌≢◌, ◌<◌, ◌⊎◌, ℕ, ◌+◌, ◌*◌, ◌==◌, nat_le, Bool, true, false, not, ◌&&◌}
use Rattle.std.specs.Prelude.{List, [], ◌∷◌, ◌++◌, All, length, IsUtf8, codes, flat_map}
use Rattle.std.specs.Char.{digit_value}
use Rattle.std.specs.List.{join_with_byte}
use Rattle.ce_base.specs.declared.entries.Entry.{Entry}
use Rattle.form_controls.specs.Texts.{carriage_return, line_feed}
use Rattle.form_submission.specs.Encodings.{is_boundary, occurs}
use Rattle.form_submission.specs.LineEnds.{newline}

-- & + = % "
abbrev pub ampersand : ℕ
ampersand = 38

abbrev pub plus : ℕ
plus = 43

abbrev pub equals : ℕ
equals = 61

abbrev pub percent : ℕ
percent = 37

abbrev pub quote : ℕ
quote = 34

-- ---- application/x-www-form-urlencoded

-- from ! to ~, without & + = and %
abbrev pub is_bare : ℕ → Bool
is_bare b = nat_le 33 b && nat_le b 126 && not (b == ampersand) && not (b == plus) && not (b == equals) && not (b == percent)

-- of a name or a value a bare byte is spelled by itself, a space by +, any byte by % and two hexadecimal digits
abbrev pub IsSpelling : ℕ → List ℕ → Type 0
IsSpelling c cell =
    ((is_bare c ≡ true) × (cell ≡ c ∷ []))
    ⊎ (((c ≡ 32) × (cell ≡ plus ∷ []))
    ⊎ ((high : ℕ) × (low : ℕ) × (digit_value high < 16) × (digit_value low < 16)
    × (c ≡ 16 * digit_value high + digit_value low) × (cell ≡ percent ∷ high ∷ low ∷ [])))

-- the bytes spell the text, byte by byte
abbrev pub Spells : List ℕ → List ℕ → Type 0
Spells [] bytes = bytes ≡ []
Spells (c ∷ text) bytes = (cell : List ℕ) × (rest : List ℕ) × IsSpelling c cell × Spells text rest × (bytes ≡ cell ++ rest)

-- a name, one =, a value
pub record IsPair (e : Entry) (bytes : List ℕ) : Type 0 where
  pub name : List ℕ
  pub value : List ℕ
  pub spells_name : Spells e.name name
  pub spells_value : Spells e.value value
  pub name_utf8 : IsUtf8 e.name
  pub value_utf8 : IsUtf8 e.value
  pub joined : bytes ≡ name ++ equals ∷ value

-- the parts are the pairs of the entries, in order
abbrev pub ArePairs : List Entry → List (List ℕ) → Type 0
ArePairs [] parts = parts ≡ []
ArePairs (e ∷ list) [] = ⊥
ArePairs (e ∷ list) (part ∷ parts) = IsPair e part × ArePairs list parts

-- nothing, or the pairs joined by &
abbrev pub UrlText : List Entry → List ℕ → Type 0
UrlText [] bytes = bytes ≡ []
UrlText (e ∷ list) bytes = (parts : List (List ℕ)) × ArePairs (e ∷ list) parts × (bytes ≡ join_with_byte ampersand parts)

-- ---- text/plain

-- the byte stands nowhere in the text
abbrev pub HasNo : ℕ → List ℕ → Type 0
HasNo c text = All (λ b. b ≢ c) text

-- the name has no =, and neither it nor the value has CR or LF
abbrev pub IsPlain : Entry → Type 0
IsPlain e = HasNo equals e.name × HasNo carriage_return e.name × HasNo line_feed e.name × HasNo carriage_return e.value × HasNo line_feed e.value

-- the name, =, the value, CR and LF
abbrev pub line : Entry → List ℕ
line e = e.name ++ codes "=" ++ e.value ++ newline

-- a line for each entry
abbrev pub PlainText : List Entry → List ℕ → Type 0
PlainText list bytes = IsUtf8 bytes × All IsPlain list × (bytes ≡ flat_map line list)

-- ---- multipart/form-data

abbrev pub IsBoundary : List ℕ → Type 0
IsBoundary text = is_boundary text ≡ true

-- the name has no quote, CR or LF, and the boundary stands nowhere in the value
abbrev pub FitsPart : List ℕ → Entry → Type 0
FitsPart boundary e = HasNo quote e.name × HasNo carriage_return e.name × HasNo line_feed e.name × (occurs boundary e.value ≡ false)

-- a part as the encoder writes it, with the name as it stands
abbrev pub part : List ℕ → Entry → List ℕ
part boundary e =
    codes "--" ++ boundary ++ newline
    ++ codes "Content-Disposition: form-data; name=\"" ++ e.name ++ codes "\"" ++ newline
    ++ newline
    ++ e.value ++ newline

-- a part for each entry, and the line that closes
abbrev pub PartText : List Entry → List ℕ → List ℕ → Type 0
PartText list boundary bytes =
    IsUtf8 bytes × All (FitsPart boundary) list × (bytes ≡ flat_map (part boundary) list ++ codes "--" ++ boundary ++ codes "--" ++ newline)
