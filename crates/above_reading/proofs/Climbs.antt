-- The way up, as a list that grows at its end.
use Rattle.std.proofs.Common.{◌≡◌, ℕ, List, [], ◌∷◌, ◌++◌, Some, refl, ap, sym, ◌∙◌}
use Rattle.node_trees.specs.Trees.{Trees}
use Rattle.node_trees.specs.Nodes.{IsNode}
use Rattle.node_trees.specs.Spots.{parent_at}
use Rattle.above_reading.specs.Ways.{IsUpward, first_or}

pub first-push : (ns : List ℕ) (n top : ℕ) → first_or (ns ++ n ∷ []) top ≡ first_or ns n
first-push [] n top = refl
first-push (m ∷ ms) n top = refl

pub upward-push : (f : Trees) (ns : List ℕ) (n top : ℕ) → IsNode f n → parent_at f n ≡ Some top → IsUpward f ns n → IsUpward f (ns ++ n ∷ []) top
upward-push f [] n top node up way = (node, (up, tt))
upward-push f (m ∷ ms) n top node up way =
    (way.0, (way.1.0 ∙ ap Some (sym (first-push ms n top)), upward-push f ms n top node up way.1.1))

-- the last of a way
pub record IsLast (f : Trees) (ns : List ℕ) (n top : ℕ) : Type 0 where
  pub node : IsNode f n
  pub up : parent_at f n ≡ Some top
  pub way : IsUpward f ns n

pub upward-pop : (f : Trees) (ns : List ℕ) (n top : ℕ) → IsUpward f (ns ++ n ∷ []) top → IsLast f ns n top
upward-pop f [] n top way = record { node = way.0; up = way.1.0; way = tt }
upward-pop f (m ∷ ms) n top way =
    let last = upward-pop f ms n top way.1.1 in
    record { node = last.node; up = last.up; way = (way.0, (way.1.0 ∙ ap Some (first-push ms n top), last.way)) }
