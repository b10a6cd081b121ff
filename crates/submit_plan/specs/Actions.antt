-- The URL of an action, where it parses.
use Rattle.std.specs.Prelude.{◌≡◌, Option, Some, None, Ok, Err}
use Rattle.url.specs.declared.error.ParseError.{ParseError}
use Rattle.url.specs.Parser.{Parsed}
use Rattle.url.specs.Parts.{Parts}

-- it is the URL that was parsed, or none was
abbrev pub Finds : Option Parts → Parsed Parts → Type 0
Finds (Some url) parsed = parsed ≡ Ok url
Finds None parsed = (e : ParseError) × (parsed ≡ Err e)
