-- What is kept on a way up.
use Rattle.std.specs.Prelude.{◌≡◌, ℕ, Bool, List, [], ◌∷◌, Some}
use Rattle.std.specs.BTreeMap.{get}
use Rattle.std.specs.Ordering.{nat_cmp}
use Rattle.node_trees.specs.Trees.{Trees}
use Rattle.node_trees.specs.Nodes.{IsNode}
use Rattle.node_trees.specs.Spots.{parent_at}
use Rattle.owner_reading.specs.Owners.{owner_with}
use Rattle.disabled_reading.specs.Disabled.{disabled_with}
use Rattle.above_reading.specs.declared.above.Above.{Above}
use Rattle.above_reading.specs.declared.known.Known.{Known}
use Rattle.above_reading.specs.declared.readings.Reading.{Reading}
use Rattle.above_reading.specs.Above.{above_at}

-- what is kept of a node stands above it
abbrev pub AreRight : Trees → Known → Type 0
AreRight forest known = (n : ℕ) (a : Above) → get nat_cmp known.items n ≡ Some a → a ≡ above_at forest n

-- the first of a list, or another
abbrev pub first_or : List ℕ → ℕ → ℕ
first_or [] n = n
first_or (m ∷ ms) n = m

-- a way up to a node: behind each stands its parent
abbrev pub IsUpward : Trees → List ℕ → ℕ → Type 0
IsUpward forest [] top = Unit {0}
IsUpward forest (n ∷ ns) top = IsNode forest n × ((parent_at forest n ≡ Some (first_or ns top)) × IsUpward forest ns top)

-- the form owner and the disabled state of a node, given whether it is a form-associated custom element
abbrev pub reading_of : Trees → ℕ → Bool → Reading
reading_of forest n associated = record { owner = owner_with forest n associated; disabled = disabled_with forest n associated }
