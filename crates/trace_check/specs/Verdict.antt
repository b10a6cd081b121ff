-- What a verdict says of the lines of a trace.
use Rattle.std.specs.Prelude.{◌≡◌, ◌<◌, ◌+◌, ℕ, List, take, length}
use Rattle.trace_check.specs.Traces.{AreLawful}
use Rattle.trace_check.specs.declared.verdict.Verdict.{Verdict}
use Rattle.trace_check.specs.declared.verdict.Verdict.TheVariants.{Yes, No}

-- the lines before the one of this number, from 1, are those of a lawful log; with it they are those of none
pub record BreaksAt (number : ℕ) (lines : List (List ℕ)) : Type 0 where
  pub before : ℕ
  pub number_is : number ≡ before + 1
  pub within : before < length lines
  pub lawful : AreLawful (take before lines)
  pub with_it : AreLawful (take (before + 1) lines) → ⊥

-- Yes: they are the lines of a lawful log, and so many. No: they break the law at the line of that number
abbrev pub IsVerdict : Verdict → List (List ℕ) → Type 0
IsVerdict (Yes n) lines = (n ≡ length lines) × AreLawful lines
IsVerdict (No n) lines = BreaksAt n lines
