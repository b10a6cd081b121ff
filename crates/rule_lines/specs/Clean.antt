-- Tokens whose bare ones can stand on a line, and tokens whose quoted ones say a text.
use Rattle.std.specs.Prelude.{◌≡◌, ◌≢◌, ℕ, Bool, true, false, List, [], ◌∷◌}
use Rattle.std.specs.List.{list_all}
use Rattle.std.specs.Str.{IsUtf8}
use Rattle.rule_tokens.specs.declared.token.Token.{Token}
use Rattle.rule_tokens.specs.Spaced.{is_bare_byte}

abbrev pub IsBareBy : Bool → List ℕ → Type 0
IsBareBy true text = Unit {0}
IsBareBy false text = (text ≢ []) × (list_all is_bare_byte text ≡ true)

-- a bare token is some bytes that may stand in one
abbrev pub IsBareClean : Token → Type 0
IsBareClean t = IsBareBy t.quoted t.text

abbrev pub AreBareClean : List Token → Type 0
AreBareClean [] = Unit {0}
AreBareClean (t ∷ ts) = IsBareClean t × AreBareClean ts

abbrev pub IsTextBy : Bool → List ℕ → Type 0
IsTextBy true text = IsUtf8 text
IsTextBy false text = Unit {0}

-- a quoted token says a text
abbrev pub IsText : Token → Type 0
IsText t = IsTextBy t.quoted t.text

abbrev pub AreTexts : List Token → Type 0
AreTexts [] = Unit {0}
AreTexts (t ∷ ts) = IsText t × AreTexts ts
