-- The roots of a list after a tree was put among them, or among the children of p.
use Rattle.std.proofs.Common.{◌≡◌, ℕ, Option, refl, arith}
use Rattle.std.proofs.lemmas.Bool.Decides.{nat_tests}
use Rattle.node_trees.specs.Facts.{Facts}
use Rattle.node_trees.specs.Trees.{Trees, none, tree, roots, before, put}
pub use Rattle.tree_laws.specs.Numbers.{insert_number as inserted}

pub roots-before : (b : Option ℕ) (n : ℕ) (x : Facts) (s k f : Trees) → roots (before b (tree n x s k none) f) ≡ inserted b n (roots f)
roots-before b n x s k none = refl
roots-before b n x s k (tree m y t l r) = grind (arith, nat_tests, roots-before b n x s k r)

pub roots-put : (p : ℕ) (b : Option ℕ) (t f : Trees) → roots (put p b t f) ≡ roots f
roots-put p b t none = refl
roots-put p b t (tree m x s k r) = grind (arith, nat_tests, roots-put p b t r)
