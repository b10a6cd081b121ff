-- The roots of a forest after a shadow tree was attached.
use Rattle.std.proofs.Common.{◌≡◌, ℕ, refl, arith}
use Rattle.std.proofs.lemmas.Bool.Decides.{nat_tests}
use Rattle.node_trees.specs.Trees.{Trees, none, tree, roots, with_shadow}

pub roots-shadow : (q : ℕ) (t f : Trees) → roots (with_shadow q t f) ≡ roots f
roots-shadow q t none = refl
roots-shadow q t (tree m x s k r) = grind (arith, nat_tests, roots-shadow q t r)
