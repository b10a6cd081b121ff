-- Lines that are counted, written out.
use Rattle.std.specs.Prelude.{◌≡◌, ℕ, List, codes}
use Rattle.made_scripts.specs.Figures.{lines_in, calls_in}

-- five lines, of which the first and the last tell a call; four of them end
abbrev pub transcript : List ℕ
transcript = codes "call #3 connected\n#3 call\n call\ncal\ncall"

abbrev pub Counted : Type 0
Counted = (lines_in transcript ≡ 4) × (calls_in transcript ≡ 2)
