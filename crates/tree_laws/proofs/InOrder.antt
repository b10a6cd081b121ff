-- What stands in tree order is there.
use Rattle.std.proofs.Common.{◌≡◌, ℕ, true, ◌<◌, arith}
use Rattle.std.proofs.lemmas.Bool.Decides.{nat_tests}
use Rattle.node_trees.specs.Trees.{Trees, none, tree, tree_of}
use Rattle.node_trees.specs.Nodes.{times, IsNode, IsTidy}
use Rattle.node_trees.specs.Orders.{tree_order, tree_order_of}
use Rattle.node_trees.specs.Paths.{is_among}
use Rattle.node_trees.proofs.Absent.{is_among-append}
use Rattle.tree_laws.proofs.Sums.{tidy-apart, times-without}

pub order-inside : (n : ℕ) (f : Trees) → is_among n (tree_order f) ≡ true → 0 < times n f
order-inside n none h = cc
order-inside n (tree m x s k r) h =
    grind (arith, nat_tests, order-inside n k, order-inside n r, is_among-append n (tree_order k) (tree_order r))

-- what is in the tree order of a number is a node
pub member_is_node : (f : Trees) (root n : ℕ) → IsTidy f → is_among n (tree_order_of f root) ≡ true → IsNode f n
member_is_node f root n tidy among =
    let low = order-inside n (tree_of root f) among in
    tidy.only n (omega (arith, low, times-without n root f (tidy-apart f tidy root)))
