-- A node with nothing below it is above no other.
use Rattle.std.proofs.Common.{◌≡◌, ℕ, ◌==◌, ◌∷◌, [], None, refl, ap, sym, ◌∙◌, arith}
use Rattle.std.proofs.lemmas.Bool.Decides.{nat_tests}
use Rattle.node_trees.specs.Trees.{Trees, none, tree, roots}
use Rattle.node_trees.specs.Nodes.{IsNode, IsTidy}
use Rattle.node_trees.specs.Orders.{order, order_of}
use Rattle.node_trees.specs.Paths.{path, is_among}
use Rattle.node_trees.specs.Spots.{Spot, shadow_at, first_child_at, first_of}
use Rattle.tree_laws.proofs.AtNode.{node_stands, spot_at-is}
use Rattle.tree_laws.proofs.Inside.{found}
use Rattle.tree_laws.proofs.Sums.{tidy-apart}
use Rattle.tree_laws.proofs.Walked.{walked}

no-roots : (f : Trees) → first_of (roots f) ≡ None → f ≡ none
no-roots none e = refl
no-roots (tree m x s k r) e = absurd cc

pub leaf-order : (f : Trees) (n : ℕ) → IsTidy f → IsNode f n → shadow_at f n ≡ None → first_child_at f n ≡ None → order_of f n ≡ n ∷ []
leaf-order f n tidy at bare childless =
    let it = found None None n f (tidy-apart f tidy) (node_stands f n tidy at) in
    let here = spot_at-is f n _ it.spot_is in
    let no_shadow : it.shadow ≡ none = no-roots it.shadow (ap (λ (s : Spot). first_of s.shadow) (sym here) ∙ bare) in
    let no_child : it.children ≡ none = no-roots it.children (ap (λ (s : Spot). first_of s.children) (sym here) ∙ childless) in
    ap order it.tree_is ∙ rw (no_shadow, no_child) refl

-- so it is on the path of a number just where it is that number
pub leaf-above : (f : Trees) (n i : ℕ) → IsTidy f → IsNode f n → shadow_at f n ≡ None → first_child_at f n ≡ None → is_among n (path i f) ≡ (n == i)
leaf-above f n i tidy at bare childless = sym (walked f n i tidy) ∙ ap (is_among i) (leaf-order f n tidy at bare childless) ∙ grind (arith, nat_tests)
