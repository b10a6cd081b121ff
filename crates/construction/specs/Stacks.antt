-- Construction stacks (HTML Standard, sections "Core concepts", "Upgrades", "HTML element constructors"): of each custom
-- element definition, that of definition 0 first, a list of entries, the last one first; None is the already
-- constructed marker.
use Rattle.std.specs.Prelude.{ℕ, zero, suc, ◌+◌, List, [], ◌∷◌, Option, Some, None, slice_get, slice_set}
use Rattle.construction.specs.declared.base.Base.{Base}
use Rattle.construction.specs.declared.base.Base.TheVariants.{Fresh, Of, Already}

abbrev pub or_no_entries : Option (List (Option ℕ)) → List (Option ℕ)
or_no_entries None = []
or_no_entries (Some entries) = entries

-- the construction stack of a definition (section "Core concepts", "construction stack")
abbrev pub stack_of : ℕ → List (List (Option ℕ)) → List (Option ℕ)
stack_of d stacks = or_no_entries (slice_get stacks d)

abbrev pub with_stack : ℕ → List (Option ℕ) → List (List (Option ℕ)) → List (List (Option ℕ))
with_stack d entries stacks = slice_set stacks d entries

-- empty stacks put behind the others until there are so many
abbrev pub grown : ℕ → List (List (Option ℕ)) → List (List (Option ℕ))
grown zero stacks = stacks
grown (suc count) [] = [] ∷ grown count []
grown (suc count) (entries ∷ stacks) = entries ∷ grown count stacks

-- an element added to the end of a definition's construction stack (section "Upgrades", "upgrade an element")
abbrev pub pushed : ℕ → ℕ → List (List (Option ℕ)) → List (List (Option ℕ))
pushed d n stacks = with_stack d (Some n ∷ stack_of d stacks) (grown (d + 1) stacks)

abbrev pub without_last : List (Option ℕ) → List (Option ℕ)
without_last [] = []
without_last (entry ∷ entries) = entries

-- the last entry removed from a definition's construction stack (section "Upgrades", "upgrade an element"); from an
-- empty one nothing is
abbrev pub popped : ℕ → List (List (Option ℕ)) → List (List (Option ℕ))
popped d stacks = with_stack d (without_last (stack_of d stacks)) stacks

-- what the last entry is for the base call of a constructor (section "HTML element constructors")
abbrev pub base_of : List (Option ℕ) → Base
base_of [] = Fresh
base_of (None ∷ entries) = Already
base_of (Some n ∷ entries) = Of n

-- the last entry replaced by the already constructed marker, where it is an element (section "HTML element constructors")
abbrev pub marked : List (Option ℕ) → List (Option ℕ)
marked [] = []
marked (None ∷ entries) = None ∷ entries
marked (Some n ∷ entries) = None ∷ entries

-- the same of the definition's construction stack: without an element as its last entry nothing changes
abbrev pub with_marker : ℕ → List (Option ℕ) → List (List (Option ℕ)) → List (List (Option ℕ))
with_marker d [] stacks = stacks
with_marker d (None ∷ entries) stacks = stacks
with_marker d (Some n ∷ entries) stacks = with_stack d (None ∷ entries) stacks
