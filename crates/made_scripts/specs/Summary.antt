-- The summary of a run.
use Rattle.std.specs.Prelude.{ℕ, Bool, if◌then◌else◌, List, ◌∷◌, [], ◌++◌, codes}
use Rattle.std.specs.Fmt.{decimal}
use Rattle.made_scripts.specs.Figures.{lines_in, calls_in}

-- a line of a name and a number
abbrev pub figure : List ℕ → ℕ → List ℕ
figure name number = name ++ 32 ∷ decimal number ++ 10 ∷ []

-- the last line, which says how the run ended
abbrev pub end_line : Bool → List ℕ
end_line spent = if spent then codes "end fuel\n" else codes "end done\n"

-- how many elements the script made, how many lines it has, how many lines the transcript has and how many of them
-- tell a call, how much fuel was used, and whether the run ended for want of it
unfoldable pub summary : ℕ → ℕ → List ℕ → ℕ → Bool → List ℕ
summary made script_lines transcript fuel_used spent =
    figure (codes "made") made
    ++ figure (codes "script lines") script_lines
    ++ figure (codes "transcript lines") (lines_in transcript)
    ++ figure (codes "calls") (calls_in transcript)
    ++ figure (codes "fuel used") fuel_used
    ++ end_line spent
