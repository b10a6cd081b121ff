-- The tokens of a line, and in which order its faults are looked for.
use Rattle.std.specs.Prelude.{ℕ, Bool, true, false, ◌&&◌, ◌||◌, not, List, [], ◌∷◌, length}
use Rattle.std.specs.Prelude.{Option, Some, None, Result, Ok, Err, ◌==◌, nat_lt, if◌then◌else◌, encode_utf8_all}
use Rattle.std.specs.Char.{is_ascii_control}
use Rattle.std.specs.List.{list_any}
use Rattle.std.specs.Str.{chars, is_utf8}
use Rattle.rule_tokens.specs.declared.refused.Bad.{Bad}
use Rattle.rule_tokens.specs.declared.refused.Bad.TheVariants.{Long, Utf8, Word}
use Rattle.rule_tokens.specs.declared.cutting.Raw.{Raw}
use Rattle.rule_tokens.specs.declared.cutting.Within.TheVariants.{Gap}
use Rattle.rule_tokens.specs.declared.escapes.InEscape.TheVariants.{Outside}
use Rattle.rule_tokens.specs.declared.token.Token.{Token}
use Rattle.rule_tokens.specs.Cut.{cut}
use Rattle.rule_tokens.specs.Escapes.{unescape}
use Rattle.rule_tokens.specs.Gives.{◌>>=◌, with_front}

-- nothing, spaces alone, or a comment: a # that only spaces stand before
abbrev pub is_blank : List ℕ → Bool
is_blank [] = true
is_blank (c ∷ cs) = if c == 32 then is_blank cs else (c == 35)

-- a token that says these characters
abbrev pub token : Bool → List ℕ → Token
token quoted cs = record { quoted = quoted; text = encode_utf8_all cs }

-- what a token says: in quotes escapes are read
abbrev pub token_of : Raw → Result Token Bad
token_of r = if r.quoted then (unescape r.chars Outside >>= λ cs. Ok (token true cs)) else Ok (token false r.chars)

-- what each token says
abbrev pub tokens_in : List Raw → Result (List Token) Bad
tokens_in [] = Ok []
tokens_in (r ∷ rs) = token_of r >>= λ t. with_front (t ∷ []) (tokens_in rs)

abbrev pub is_backslash : ℕ → Bool
is_backslash c = c == 92

-- a backslash stands in a bare token
abbrev pub has_bare_backslash : Raw → Bool
has_bare_backslash r = not r.quoted && list_any is_backslash r.chars

-- the tokens of a line that isn't blank: first it is cut, then its escapes are read, then stray characters are looked for
unfoldable pub tokens_of_chars : List ℕ → Result (List Token) Bad
tokens_of_chars line = do
  raws ← cut line Gap
  tokens ← tokens_in raws
  if list_any is_ascii_control line || list_any has_bare_backslash raws then Err Word else Ok tokens

-- None for a blank line
abbrev pub unless_blank : List ℕ → Result (Option (List Token)) Bad
unless_blank line = if is_blank line then Ok None else (tokens_of_chars line >>= λ ts. Ok (Some ts))

-- the tokens of a line of at most so many bytes
abbrev pub tokens_of : ℕ → List ℕ → Result (Option (List Token)) Bad
tokens_of limit bytes =
    if nat_lt limit (length bytes) then Err Long
    else (if not (is_utf8 bytes) then Err Utf8
    else unless_blank (chars bytes))
