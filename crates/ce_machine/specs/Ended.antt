-- How a line of a session ends.
use Rattle.std.specs.Prelude.{◌≡◌, []}
use Rattle.ce_algorithms.specs.Steps.{Outcome, Goes, Spent}
use Rattle.ce_algorithms.specs.State.{State}
use Rattle.ce_page.specs.Settled.{IsSettled}
use Rattle.frame_stack.specs.Sessions.{ArePaired}
use Rattle.frame_stack.specs.Stacked.{Stacked}
use Rattle.ce_machine.specs.declared.end.End.{End}
use Rattle.ce_machine.specs.declared.end.End.TheVariants.{Replied, FuelSpent}
use Rattle.ce_outcomes.specs.declared.came.Came.{Came}
use Rattle.ce_outcomes.specs.declared.came.Came.TheVariants.{Went, Threw, Over}

-- the outcome of the definitions for a command's end
abbrev pub outcome_of : End → State → Outcome State (Unit {0})
outcome_of Replied s = Goes tt s
outcome_of FuelSpent s = Spent s

-- it came with no fault
abbrev pub IsNoFault : Came → Type 0
IsNoFault (Went given) = Unit {0}
IsNoFault (Threw f) = ⊥
IsNoFault Over = Unit {0}

-- the end of a command, whose fault is a reply
abbrev pub end_for : Came → End
end_for (Went given) = Replied
end_for (Threw f) = Replied
end_for Over = FuelSpent

-- between two lines: all was written out, no frame lies there, each class has its behaviour, and what is kept of form owners
-- and disabled states stands for the page
pub record IsAtRest (stack : Stacked) (s : State) : Type 0 where
  pub log : s.log ≡ []
  pub frames : stack.frames ≡ []
  pub paired : ArePaired stack s
  pub settled : IsSettled s.page
