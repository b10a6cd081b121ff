-- What an allowed insertion gives, and the removal of a child.
use Rattle.std.proofs.Common.{◌≡◌, ℕ, true, false, ◌||◌, Option, Some, None}
use Rattle.node_trees.specs.declared.kind.NodeKind.{NodeKind}
use Rattle.node_trees.specs.declared.kind.NodeKind.TheVariants.{Document, Element, TextNode, ShadowRoot}
use Rattle.node_trees.specs.Facts.{is_document, is_shadow_root}
use Rattle.node_trees.specs.Trees.{Trees, cut, graft}
use Rattle.node_trees.specs.Nodes.{size, AsChild, fits, IsNode, IsTidy}
use Rattle.node_trees.specs.Insertion.{may_insert}
use Rattle.node_trees.specs.Spots.{kind_at, parent_at}
use Rattle.tree_laws.proofs.Allowed.{no_text, not_top}
use Rattle.tree_laws.proofs.AllowedCut.{parent-outside}
use Rattle.tree_laws.proofs.ChildFits.{child-fits, child-no_root}
use Rattle.tree_laws.proofs.Sizes.{size-graft}
use Rattle.tree_laws.proofs.Tidy.{tidy-cut, tidy-graft}

fits-child : (k : NodeKind) → (is_document k || is_shadow_root k) ≡ false → fits AsChild k ≡ true
fits-child Document h = absurd cc
fits-child Element h = cc
fits-child TextNode h = cc
fits-child ShadowRoot h = absurd cc

module _ (f : Trees) (p n : ℕ) (b : Option ℕ) (tidy : IsTidy f) (node_p : IsNode f p) (node : IsNode f n) (may : may_insert f p n b ≡ None) where
  pub allowed-fits : fits AsChild (kind_at f n) ≡ true
  allowed-fits = fits-child (kind_at f n) (not_top f p n b may)

  pub allowed-size : size (graft f p n b) ≡ size f
  allowed-size = size-graft f p n b tidy node_p (parent-outside f p n b tidy node may)

  pub allowed-tidy : IsTidy (graft f p n b)
  allowed-tidy = tidy-graft f n tidy node p b node_p (parent-outside f p n b tidy node may) (no_text f p n b may) allowed-fits

-- a child taken out
pub tidy-cut-child : (f : Trees) (n q : ℕ) → IsTidy f → IsNode f n → parent_at f n ≡ Some q → IsTidy (cut f n)
tidy-cut-child f n q tidy node up = tidy-cut f n tidy node (child-no_root (kind_at f n) (child-fits f n q tidy node up))
