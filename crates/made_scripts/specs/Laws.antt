-- What holds of made scripts.
use Rattle.std.specs.Prelude.{◌≡◌, ◌≢◌, ◌≤◌, ◌<◌, ◌^◌, ℕ, List, length, All}
use Rattle.made_scripts.specs.Made.{made_lines, joined, made_script, line_count}

-- no line feed is among the bytes
abbrev pub IsClean : List ℕ → Type 0
IsClean line = All (λ b. b ≢ 10) line

-- the made script of n has so many lines
abbrev pub CountsLines : Type 0
CountsLines = (n : ℕ) → length (made_lines n) ≡ line_count n

-- none of them has a line feed in it
abbrev pub HasNoLineFeed : Type 0
HasNoLineFeed = (n : ℕ) → n < 2 ^ 32 → All IsClean (made_lines n)

-- the script cut into lines gives them back: there are no others without line feeds whose text it is
abbrev pub IsCutBack : Type 0
IsCutBack = (n : ℕ) (lines : List (List ℕ)) → n < 2 ^ 32 → All IsClean lines → joined lines ≡ made_script n → lines ≡ made_lines n

-- none of them is longer than a line of a script may be
abbrev pub IsShort : Type 0
IsShort = (n : ℕ) → n < 2 ^ 32 → All (λ line. length line ≤ 4096) (made_lines n)
