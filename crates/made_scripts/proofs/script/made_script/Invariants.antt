use Rattle.std.proofs.Common.{◌≡◌, ◌++◌, length}
use Rattle.std.specs.Prelude.{string_bytes}
use Rattle.made_scripts.specs.Made.{joined, made_script}
use Rattle.made_scripts.proofs.script.made_script.Given as goal

abbrev pub invariant-loop-script : goal.invariant-loop-script
invariant-loop-script l = string_bytes l.script ++ joined l.maker ≡ made_script l.n

abbrev pub decreases-loop-script : goal.decreases-loop-script
decreases-loop-script l = length l.maker
