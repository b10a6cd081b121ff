-- Line ends as they are sent (HTML Standard, sections "Converting an entry list to a list of name-value pairs", "Multipart form data").
use Rattle.std.specs.Prelude.{ℕ, Bool, false, not, ◌&&◌, ◌==◌, if◌then◌else◌, List, [], ◌∷◌, ◌++◌}
use Rattle.form_controls.specs.Texts.{carriage_return, line_feed}

abbrev pub newline : List ℕ
newline = carriage_return ∷ line_feed ∷ []

abbrev pub begins_with_line_feed : List ℕ → Bool
begins_with_line_feed [] = false
begins_with_line_feed (b ∷ bytes) = b == line_feed

-- one byte, by whether a carriage return stands before it, and by what stands behind it: a carriage return without a
-- line feed behind it, and a line feed without a carriage return before it, become both
abbrev pub full_byte : Bool → ℕ → List ℕ → List ℕ
full_byte is_behind b behind =
    if b == carriage_return && not (begins_with_line_feed behind) then newline
    else if b == line_feed && not is_behind then newline
    else b ∷ []

abbrev pub full_from : Bool → List ℕ → List ℕ
full_from is_behind [] = []
full_from is_behind (b ∷ bytes) = full_byte is_behind b bytes ++ full_from (b == carriage_return) bytes

-- each line end is a carriage return with a line feed behind it
abbrev pub with_full_newlines : List ℕ → List ℕ
with_full_newlines text = full_from false text
