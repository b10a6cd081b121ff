-- Texts read byte by byte from the left: what a byte adds, and what a reader knows of the bytes before it.
use Rattle.std.specs.Prelude.{ℕ, Bool, not, ◌&&◌, ◌||◌, ◌==◌, if◌then◌else◌, List, [], ◌∷◌, ◌++◌}
use Rattle.std.specs.Char.{is_ascii_whitespace, encode_utf8}
use Rattle.std.specs.List.{list_all}
use Rattle.form_controls.specs.Texts.{carriage_return, line_feed, is_newline}

-- newlines

-- what one character adds to a text without newlines
abbrev pub kept_char : ℕ → List ℕ
kept_char c = if is_newline c then [] else encode_utf8 c

-- and to a text with normalized newlines, behind a carriage return or not
abbrev pub normal_char : Bool → ℕ → List ℕ
normal_char behind c =
    if c == carriage_return then line_feed ∷ []
    else if behind && (c == line_feed) then []
    else encode_utf8 c

-- a carriage return stands right before what follows the text; `behind` says so of the text's own start
abbrev pub behind_after : Bool → List ℕ → Bool
behind_after behind [] = behind
behind_after behind (b ∷ bytes) = behind_after (b == carriage_return) bytes

-- white space

-- one byte, where something was kept of what came before it (`begun`) and where white space stands right before it (`apart`)
abbrev pub collapsed_byte : Bool → Bool → ℕ → List ℕ
collapsed_byte begun apart b =
    if is_ascii_whitespace b then []
    else if begun && apart then 32 ∷ b ∷ []
    else b ∷ []

-- and one character, which begins a word behind another one or not
abbrev pub collapsed_char : Bool → ℕ → List ℕ
collapsed_char apart c =
    if is_ascii_whitespace c then []
    else if apart then 32 ∷ encode_utf8 c
    else encode_utf8 c

abbrev pub collapsed_from : Bool → Bool → List ℕ → List ℕ
collapsed_from begun apart [] = []
collapsed_from begun apart (b ∷ bytes) =
    collapsed_byte begun apart b ++ collapsed_from (begun || not (is_ascii_whitespace b)) (is_ascii_whitespace b) bytes

-- something is kept of what came before, the text with it
abbrev pub begun_after : Bool → List ℕ → Bool
begun_after begun text = begun || not (list_all is_ascii_whitespace text)

-- white space stands right before what follows the text
abbrev pub apart_after : Bool → List ℕ → Bool
apart_after apart [] = apart
apart_after apart (b ∷ bytes) = apart_after (is_ascii_whitespace b) bytes
