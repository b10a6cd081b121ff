-- An attribute that is set or gone leaves the order of each tree, and the root of each node's tree.
use Rattle.std.proofs.Common.{◌≡◌, ℕ, List}
use Rattle.node_trees.specs.Facts.{with_value, without_value}
use Rattle.node_trees.specs.Trees.{Trees, with_attribute, without_attribute}
use Rattle.node_trees.specs.Orders.{tree_order_of}
use Rattle.node_trees.specs.Paths.{root_at}
use Rattle.tree_laws.proofs.OtherFacts.{order_of-with}
use Rattle.above_reading.proofs.WithFacts.{root-with}

module _ (f : Trees) (n : ℕ) (name : List ℕ) where
  pub order-set : (value : List ℕ) (r : ℕ) → tree_order_of (with_attribute n name value f) r ≡ tree_order_of f r
  order-set value r = order_of-with n (λ x. record x { attributes = with_value name value x.attributes }) r f

  pub root-set : (value : List ℕ) (m : ℕ) → root_at (with_attribute n name value f) m ≡ root_at f m
  root-set value = root-with f n (λ x. record x { attributes = with_value name value x.attributes })

  pub order-gone : (r : ℕ) → tree_order_of (without_attribute n name f) r ≡ tree_order_of f r
  order-gone r = order_of-with n (λ x. record x { attributes = without_value name x.attributes }) r f

  pub root-gone : (m : ℕ) → root_at (without_attribute n name f) m ≡ root_at f m
  root-gone = root-with f n (λ x. record x { attributes = without_value name x.attributes })
