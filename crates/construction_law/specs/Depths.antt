-- How deep construction stacks are (HTML Standard, section "Core concepts", "construction stack"), and what steps leave of that.
use Rattle.std.specs.Prelude.{◌≡◌, ℕ, List, [], Option, length}
use Rattle.construction.specs.Stacks.{stack_of}
use Rattle.ce_algorithms.specs.Steps.{Step, Outcome, Goes, Throws, Spent}
use Rattle.ce_algorithms.specs.State.{State}

-- the construction stack of a definition, the last entry first
abbrev pub entries_of : ℕ → State → List (Option ℕ)
entries_of d s = stack_of d s.page.stacks

-- how many entries it has, each already constructed marker among them
abbrev pub depth : ℕ → State → ℕ
depth d s = length (entries_of d s)

-- the construction stack of each definition is as deep in one state as in another
abbrev pub AsDeep : State → State → Type 0
AsDeep s t = (d : ℕ) → depth d t ≡ depth d s

-- where steps from a state have gone on or have thrown, each stack is as deep as it was; where the fuel is spent, nothing is said
abbrev pub StaysDeep : {A : Type 0} → State → Outcome State A → Type 0
StaysDeep s (Goes a t) = AsDeep s t
StaysDeep s (Throws f t) = AsDeep s t
StaysDeep s (Spent t) = Unit {0}

-- a step that leaves each construction stack as deep as it was, from any state on
pub record LeavesStacks {A : Type 0} (step : Step State A) : Type 0 where
  pub from : (s : State) → StaysDeep s (step s)

-- each construction stack is empty, unless the fuel is spent
abbrev pub StacksAreEmpty : {A : Type 0} → Outcome State A → Type 0
StacksAreEmpty (Goes a s) = (d : ℕ) → entries_of d s ≡ []
StacksAreEmpty (Throws f s) = (d : ℕ) → entries_of d s ≡ []
StacksAreEmpty (Spent s) = Unit {0}
