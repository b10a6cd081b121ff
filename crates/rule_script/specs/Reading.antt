-- What a line says, or what it is refused for, as functions that compute.
use Rattle.std.specs.Prelude.{ℕ, List, Option, Some, None, Result, Ok}
use Rattle.rule_tokens.specs.declared.refused.Bad.{Bad}
use Rattle.rule_tokens.specs.declared.token.Token.{Token}
use Rattle.rule_tokens.specs.Gives.{◌>>=◌}
use Rattle.rule_tokens.specs.Tokens.{tokens_of}
use Rattle.rule_lines.specs.Acts.{Said, Blank}
use Rattle.rule_reader.specs.Pieces.{form_of}
use Rattle.rule_script.specs.Place.{placed}

-- how many bytes a line of a script has at most
abbrev pub longest : ℕ
longest = 4096

-- what tokens say; a blank line has none
abbrev pub said_by : Option (List Token) → Result Said Bad
said_by None = Ok Blank
said_by (Some ts) = form_of ts >>= placed

-- what a line of at most so many bytes says
unfoldable pub reading : ℕ → List ℕ → Result Said Bad
reading limit bytes = tokens_of limit bytes >>= said_by
