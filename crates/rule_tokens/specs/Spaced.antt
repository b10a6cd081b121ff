-- Tokens written as a line, with one space between them.
use Rattle.std.specs.Prelude.{◌≡◌, ◌≢◌, ℕ, ◌≤◌, Bool, true, false, ◌&&◌, not, nat_lt, ◌==◌, List, [], ◌∷◌, ◌++◌, length, Some, Ok}
use Rattle.std.specs.List.{list_all}
use Rattle.std.specs.Str.{IsUtf8}
use Rattle.rule_tokens.specs.declared.token.Token.{Token}
use Rattle.rule_tokens.specs.Quoted.{in_quotes}
use Rattle.rule_tokens.specs.Tokens.{tokens_of}

abbrev pub written_by : Bool → List ℕ → List ℕ
written_by true text = in_quotes text
written_by false text = text

-- a token as it is written: the text of a quoted one in quotes
abbrev pub written : Token → List ℕ
written t = written_by t.quoted t.text

-- tokens with a space before each
abbrev pub spaced : List Token → List ℕ
spaced [] = []
spaced (t ∷ ts) = 32 ∷ (written t ++ spaced ts)

-- tokens with one space between them
abbrev pub as_line : List Token → List ℕ
as_line [] = []
as_line (t ∷ ts) = written t ++ spaced ts

-- a byte of a clean bare token: visible ASCII, but no quote and no backslash
abbrev pub is_bare_byte : ℕ → Bool
is_bare_byte b = (nat_lt 32 b && nat_lt b 127) && (not (b == 34) && not (b == 92))

abbrev pub IsCleanBy : Bool → List ℕ → Type 0
IsCleanBy true text = IsUtf8 text
IsCleanBy false text = (text ≢ []) × (list_all is_bare_byte text ≡ true)

-- a clean token: a quoted one says a text; a bare one is some such bytes
abbrev pub IsClean : Token → Type 0
IsClean t = IsCleanBy t.quoted t.text

abbrev pub AreClean : List Token → Type 0
AreClean [] = Unit {0}
AreClean (t ∷ ts) = IsClean t × AreClean ts

abbrev pub is_comment : List ℕ → Bool
is_comment [] = false
is_comment (b ∷ bs) = b == 35

-- tokens that a line can begin with: the first is bare and begins no comment
abbrev pub IsLine : List Token → Type 0
IsLine [] = ⊥
IsLine (t ∷ ts) = (t.quoted ≡ false) × (is_comment t.text ≡ false)

-- clean tokens that a line can begin with are read again where they are written as a line within the limit
abbrev pub WrittenIsRead : Type 0
WrittenIsRead = (limit : ℕ) (ts : List Token) → AreClean ts → IsLine ts → IsUtf8 (as_line ts) → length (as_line ts) ≤ limit
    → tokens_of limit (as_line ts) ≡ Ok (Some ts)

-- clean tokens that are written as a line are a text
abbrev pub WrittenIsText : Type 0
WrittenIsText = (ts : List Token) → AreClean ts → IsUtf8 (as_line ts)
