-- What waits, waits at elements, and construction stacks hold elements (HTML Standard, section "Core concepts").
use Rattle.std.specs.Prelude.{◌≢◌, ◌+◌, ℕ, List, [], ◌∷◌, Option, IfSome, ⊤}
use Rattle.node_trees.specs.Trees.{Trees}
use Rattle.node_trees.specs.Kinds.{IsElement}
use Rattle.reaction_queue.specs.declared.reaction.Reaction.{Reaction}
use Rattle.reaction_queue.specs.Queues.{list_at}
use Rattle.construction.specs.declared.base.Base.{Base}
use Rattle.construction.specs.declared.base.Base.TheVariants.{Fresh, Of, Already}
use Rattle.construction.specs.Stacks.{stack_of}

-- where a reaction waits, there is an element
abbrev pub WaitAtElements : List (List (ℕ × Reaction)) → Trees → Type 0
WaitAtElements waiting forest = (i : ℕ) → list_at i waiting ≢ [] → IsElement forest (i + 1)

-- an entry of a construction stack is an element, or the already constructed marker
abbrev pub IsEntry : Trees → Option ℕ → Type 0
IsEntry forest entry = IfSome entry (IsElement forest)

abbrev pub AreEntries : Trees → List (Option ℕ) → Type 0
AreEntries forest [] = ⊤
AreEntries forest (entry ∷ entries) = IsEntry forest entry × AreEntries forest entries

-- and so on each definition's stack
abbrev pub HoldElements : List (List (Option ℕ)) → Trees → Type 0
HoldElements stacks forest = (d : ℕ) → AreEntries forest (stack_of d stacks)

-- what a base call finds on a stack, where it finds one, is an element
abbrev pub FindsElement : Trees → Base → Type 0
FindsElement forest Fresh = ⊤
FindsElement forest (Of n) = IsElement forest n
FindsElement forest Already = ⊤
