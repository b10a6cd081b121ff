-- The rows of a page: what each node is as a custom element.
use Rattle.std.specs.Prelude.{◌≡◌, ◌≤◌, ◌+◌, ◌-◌, ℕ, List, Option, Some, length, slice_get, slice_set}
use Rattle.node_trees.specs.declared.kind.NodeKind.TheVariants.{Document}
use Rattle.node_trees.specs.Trees.{Trees}
use Rattle.node_trees.specs.Spots.{kind_at}
use Rattle.node_trees.specs.Nodes.{size, IsNode}
use Rattle.node_trees.specs.Kinds.{IsElement}
use Rattle.ce_algorithms.specs.Page.{Element, or_uncustomized}

-- the definition in a row; where there is no row there is none
abbrev pub definition_in : List Element → ℕ → Option ℕ
definition_in elements i = (or_uncustomized (slice_get elements i)).definition

-- the rows, where that of n has another definition, or none
abbrev pub redefined : List Element → ℕ → Option ℕ → List Element
redefined elements n d = slice_set elements (n - 1) (record (or_uncustomized (slice_get elements (n - 1))) { definition = d })

-- node 1 is the page's document; each row is that of a node; what has a definition is an element
pub record HasRows (elements : List Element) (forest : Trees) : Type 0 where
  pub first : IsNode forest 1
  pub document : kind_at forest 1 ≡ Document
  pub within : length elements ≤ size forest
  pub defined : (i d : ℕ) → definition_in elements i ≡ Some d → IsElement forest (i + 1)
