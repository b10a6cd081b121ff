-- What holds of a line that was read, or refused.
use Rattle.std.proofs.Common.{ℕ, List, Result, Ok, Err, subst}
use Rattle.std.specs.Prelude.{IfOk}
use Rattle.rule_tokens.specs.declared.refused.Bad.{Bad}
use Rattle.rule_tokens.specs.declared.refused.LineRefused.{LineRefused}
use Rattle.rule_tokens.specs.declared.refused.LineRefused.TheVariants as refused
use Rattle.rule_tokens.specs.Gives.{GivesSeen, IfBad}
use Rattle.rule_lines.specs.declared.line.Line.{Line}
use Rattle.rule_lines.specs.Acts.{Said, line_of}
use Rattle.rule_script.specs.Below.{Below}
use Rattle.rule_script.specs.Cases.{RefusedFor}
use Rattle.rule_script.specs.Reading.{reading}
use Rattle.rule_script.specs.Spells.{Spells}
use Rattle.rule_script.proofs.FaultLaws.{line_refused}
use Rattle.rule_script.proofs.SpellLaws.{found, only}

pub read_found : Below → (limit : ℕ) (bytes : List ℕ) (r : Result Line LineRefused) → GivesSeen line_of r (reading limit bytes) → IfOk r (λ x. Spells limit bytes (line_of x))
read_found below limit bytes (Ok x) gives = found below limit bytes (line_of x) gives
read_found below limit bytes (Err e) gives = tt

pub read_only : Below → (limit : ℕ) (bytes : List ℕ) (r : Result Line LineRefused) → GivesSeen line_of r (reading limit bytes) → (x : Said) → Spells limit bytes x
    → GivesSeen line_of r (Ok x)
read_only below limit bytes r gives x spells = let P : Result Said Bad → Type 0 = λ read. GivesSeen line_of r read in subst P (only below limit bytes x spells) gives

pub read_refusal : Below → (limit : ℕ) (bytes : List ℕ) (r : Result Line LineRefused) → GivesSeen line_of r (reading limit bytes) → IfBad r (RefusedFor limit bytes)
read_refusal below limit bytes (Ok x) gives = tt
read_refusal below limit bytes (Err refused.NoMemory) gives = tt
read_refusal below limit bytes (Err (refused.Bad b)) gives = line_refused below limit bytes b gives
