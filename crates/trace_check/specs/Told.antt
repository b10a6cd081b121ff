-- How a verdict is told.
use Rattle.std.specs.Prelude.{ℕ, ◌⊎◌, codes, List, [], ◌∷◌, ◌++◌, Result, Ok, Err}
use Rattle.std.specs.Fmt.{decimal}
use Rattle.std.specs.Io.KnownBytes.{Appends}
use Rattle.std.specs.declared.option.Option.{Option}
use Rattle.ce_base.specs.Faults.{Rose}
use Rattle.ce_base.specs.Outside.{AppendsPart}
use Rattle.ce_base.specs.declared.stop.Stop.{Stop}
use Rattle.ce_base.specs.declared.stop.Stop.TheVariants.{NoMemory, WriteFault}
use Rattle.trace_check.specs.Verdict.{IsVerdict}
use Rattle.trace_check.specs.declared.verdict.Verdict.{Verdict}
use Rattle.trace_check.specs.declared.verdict.Verdict.TheVariants.{Yes, No}

-- the line of a verdict
abbrev pub line_of : Verdict → List ℕ
line_of (Yes n) = codes "lawful " ++ decimal n ++ 10 ∷ []
line_of (No n) = codes "unlawful " ++ decimal n ++ 10 ∷ []

-- a front of the line of the verdict was put behind what the sink held
abbrev pub TellsPart : List (List ℕ) → Option (List ℕ) → Option (List ℕ) → Type 0
TellsPart lines held held' = (v : Verdict) × IsVerdict v lines × AppendsPart held held' (line_of v)

-- the verdict on these lines was told; or telling it stopped, with a front of its line written or nothing
abbrev pub TellsVerdict : List (List ℕ) → Result Verdict Stop → Option (List ℕ) → Option (List ℕ) → ℕ → ℕ → Type 0
TellsVerdict lines (Ok v) held held' before now = IsVerdict v lines × Appends held held' (line_of v)
TellsVerdict lines (Err WriteFault) held held' before now = Rose before now × TellsPart lines held held'
TellsVerdict lines (Err NoMemory) held held' before now = Appends held held' [] ⊎ TellsPart lines held held'
