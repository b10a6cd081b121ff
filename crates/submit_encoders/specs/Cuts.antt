-- Where a text is cut, so that its pieces are sent as they stand.
use Rattle.std.specs.Prelude.{◌≡◌, ◌<◌, ◌≤◌, ◌+◌, ◌==◌, ℕ, Bool, false, if◌then◌else◌, nat_eq, List, [], ◌∷◌, ◌++◌, drop, length}
use Rattle.std.specs.List.{list_any, starts_with}
use Rattle.form_controls.specs.Texts.{is_newline}
use Rattle.form_submission.specs.LineEnds.{newline, with_full_newlines}

-- line ends

-- a carriage return or a line feed stands in the text
abbrev pub has_line_end : List ℕ → Bool
has_line_end text = list_any is_newline text

abbrev pub begins_with_line_end : List ℕ → Bool
begins_with_line_end [] = false
begins_with_line_end (b ∷ bytes) = is_newline b

-- what follows the line end at the front: a carriage return with a line feed behind it is one
abbrev pub past_line_end : List ℕ → List ℕ
past_line_end text = if starts_with nat_eq text newline then drop 2 text else drop 1 text

-- what stands before the first line end of a text, and what follows it
pub record CutsLine (text line rest : List ℕ) : Type 0 where
  pub is_line : has_line_end line ≡ false
  pub sent : with_full_newlines text ≡ line ++ newline ++ with_full_newlines rest
  pub shorter : length line + length rest < length text
  pub full : length line + length rest + 2 ≤ length text → text ≡ line ++ newline ++ rest

-- quotes

abbrev pub is_quote : ℕ → Bool
is_quote b = b == 34

abbrev pub has_quote : List ℕ → Bool
has_quote text = list_any is_quote text

-- what stands before the first quote of a text, and what follows it
pub record CutsQuote (text front rest : List ℕ) : Type 0 where
  pub no_quote : has_quote front ≡ false
  pub cut : text ≡ front ++ 34 ∷ rest
