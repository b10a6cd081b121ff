-- What holds of what lines read as, whatever reads them.
use Rattle.std.specs.Prelude.{◌≡◌, ◌↔◌, ℕ, List, Ok, Err}
use Rattle.rule_tokens.specs.declared.refused.Bad.{Bad}
use Rattle.rule_lines.specs.Acts.{Said}
use Rattle.rule_script.specs.Cases.{RefusedFor}
use Rattle.rule_script.specs.Reading.{reading}
use Rattle.rule_script.specs.Spells.{Spells}

-- under each limit a line reads as what it spells, and as nothing else
abbrev pub ReadsSpelled : Type 0
ReadsSpelled = (limit : ℕ) (bytes : List ℕ) (x : Said) → (reading limit bytes ≡ Ok x) ↔ Spells limit bytes x

-- and each other line is refused for the first of the cases that holds
abbrev pub RefusesFirst : Type 0
RefusesFirst = (limit : ℕ) (bytes : List ℕ) (b : Bad) → reading limit bytes ≡ Err b → RefusedFor limit bytes b
