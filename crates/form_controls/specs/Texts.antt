-- Texts as controls read them (Infra Standard, section "Strings"). A text is the list of its bytes in UTF-8.
use Rattle.std.specs.Prelude.{ℕ, Bool, false, not, ◌&&◌, ◌||◌, ◌==◌, if◌then◌else◌, List, [], ◌∷◌, ◌++◌, filter, length, nat_lt, sum_by}
use Rattle.std.specs.Char.{is_ascii_whitespace}
use Rattle.std.specs.List.{slice_split, join_with_byte}

abbrev pub carriage_return : ℕ
carriage_return = 13

abbrev pub line_feed : ℕ
line_feed = 10

abbrev pub is_empty : List ℕ → Bool
is_empty text = length text == 0

-- newlines

abbrev pub is_newline : ℕ → Bool
is_newline b = b == carriage_return || b == line_feed

-- "strip newlines"
abbrev pub without_newlines : List ℕ → List ℕ
without_newlines text = filter (λ b. not (is_newline b)) text

-- one byte, behind a carriage return or not: a carriage return becomes a line feed, and a line feed right behind one is left out
abbrev pub normal_byte : Bool → ℕ → List ℕ
normal_byte behind b =
    if b == carriage_return then line_feed ∷ []
    else if behind && (b == line_feed) then []
    else b ∷ []

abbrev pub normalized_from : Bool → List ℕ → List ℕ
normalized_from behind [] = []
normalized_from behind (b ∷ bytes) = normal_byte behind b ++ normalized_from (b == carriage_return) bytes

-- "normalize newlines"
abbrev pub normalized : List ℕ → List ℕ
normalized text = normalized_from false text

-- white space

-- "strip and collapse ASCII whitespace": the words between runs of it, with one space between them
abbrev pub collapsed : List ℕ → List ℕ
collapsed text = join_with_byte 32 (filter (λ word. not (is_empty word)) (slice_split is_ascii_whitespace text))

-- lengths

-- a character counts at its first byte: two code units where it takes four bytes, else one
abbrev pub units_at : ℕ → ℕ
units_at b =
    if nat_lt b 0x80 then 1
    else if nat_lt b 0xC0 then 0
    else if nat_lt b 0xF0 then 1
    else 2

-- "length": how many code units of UTF-16 a text takes
abbrev pub units_of : List ℕ → ℕ
units_of text = sum_by units_at text
