-- How tests of what was constructed say the step that they are.
use Rattle.std.specs.Prelude.{ℕ, Option, Some, None}
use Rattle.ce_base.specs.declared.fault.Fault.{Fault}
use Rattle.ce_algorithms.specs.State.{State}
use Rattle.ce_algorithms.specs.Steps.{Step, give, throw}

-- a node that passed its tests is given; else the fault of the first that it failed is thrown
abbrev pub tested : Option Fault → ℕ → Step State ℕ
tested None n = give n
tested (Some f) n = throw f
