-- A node that was taken out of where it stood.
use Rattle.std.specs.Prelude.{◌≡◌, ℕ, Option, None}
use Rattle.node_trees.specs.Trees.{Trees, with_document}
use Rattle.node_trees.specs.Spots.{parent_at}
use Rattle.node_trees.specs.Insertion.{may_insert}
use Rattle.node_trees.specs.Nodes.{IsNode}
use Rattle.ce_algorithms.specs.Mutation.{reference_child}
use Rattle.ce_algorithms.specs.Steps.{Step}
use Rattle.ce_algorithms.specs.Page.{Work, change_page, with_forest}

-- the node has no parent now, and where it could be inserted it still can
pub record IsLoosed (old new : Trees) (n : ℕ) : Type 0 where
  pub free : parent_at new n ≡ None
  pub may : (p : ℕ) (b : Option ℕ) → IsNode old p → may_insert old p n b ≡ None → may_insert new p n (reference_child old n b) ≡ None

-- each node has the parent that it had, and what could be inserted still can
pub record SamePlaces (old new : Trees) : Type 0 where
  pub parents : (n : ℕ) → parent_at new n ≡ parent_at old n
  pub may : (p n : ℕ) (b : Option ℕ) → may_insert new p n b ≡ may_insert old p n b

-- one node of an adopted tree gets the document
abbrev pub move_one : ℕ → ℕ → Step Work (Unit {0})
move_one document n = change_page (with_forest (with_document n document))
