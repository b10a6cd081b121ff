-- Lines that say nothing.
use Rattle.std.specs.Prelude.{ℕ, Bool, ◌&&◌, nat_le, List, length}
use Rattle.std.specs.Str.{chars, is_utf8}
use Rattle.rule_tokens.specs.Tokens.{is_blank}

-- under the limit the line is read as a blank one
abbrev pub says_nothing : ℕ → List ℕ → Bool
says_nothing limit line = nat_le (length line) limit && is_utf8 line && is_blank (chars line)
