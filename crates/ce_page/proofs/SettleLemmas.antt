-- The owner table of a page, where the trees were changed.
use Rattle.std.proofs.Common.{◌≡◌, ℕ, List, Option, None, Some, inl, inr, subst, sym}
use Rattle.node_trees.specs.declared.kind.NodeKind.TheVariants.{Element as ElementKind}
use Rattle.node_trees.specs.Trees.{Trees, cut, graft, with_attribute, without_attribute}
use Rattle.node_trees.specs.Nodes.{size, IsNode, IsNodeOrNone, IsTidy}
use Rattle.node_trees.specs.Insertion.{may_insert}
use Rattle.node_trees.specs.Spots.{parent_at, kind_at}
use Rattle.form_owner.specs.Touches.{IsInserted, IsRemoved, IsChanged}
use Rattle.ce_algorithms.specs.Page.{Page}

-- a page as it is kept is the page that callers see
module _ (inside now : Page) (view_is : inside ≡ now) where
  pub inserted : (parent node : ℕ) (before : Option ℕ) (new : Trees) → IsNode now.forest parent → IsNode now.forest node → IsNodeOrNone now.forest before
      → may_insert now.forest parent node before ≡ None → parent_at now.forest node ≡ None → IsTidy inside.forest → size new ≡ size inside.forest
      → new ≡ graft inside.forest parent node before
      → IsInserted node inside.forest new
  inserted parent node before new is_parent is_node is_before may free tidy size_is is = record {
    tidy = tidy;
    parent = parent;
    before = before;
    parent_node = subst (λ (p : Page). IsNode p.forest parent) (sym view_is) is_parent;
    node = subst (λ (p : Page). IsNode p.forest node) (sym view_is) is_node;
    before_node = subst (λ (p : Page). IsNodeOrNone p.forest before) (sym view_is) is_before;
    may = subst (λ (p : Page). may_insert p.forest parent node before ≡ None) (sym view_is) may;
    free = subst (λ (p : Page). parent_at p.forest node ≡ None) (sym view_is) free;
    size_is = size_is;
    is = is;
  }

  pub removed : (node parent : ℕ) (new : Trees) → IsNode now.forest node → parent_at inside.forest node ≡ Some parent → IsTidy inside.forest
      → size new ≡ size inside.forest → new ≡ cut inside.forest node
      → IsRemoved node parent inside.forest new
  removed node parent new is_node placed tidy size_is is = record {
    tidy = tidy;
    node = subst (λ (p : Page). IsNode p.forest node) (sym view_is) is_node;
    placed = placed;
    size_is = size_is;
    is = is;
  }

  pub attribute_set : (n : ℕ) (name value : List ℕ) (new : Trees) → IsNode now.forest n → kind_at now.forest n ≡ ElementKind → IsTidy inside.forest
      → size new ≡ size inside.forest
      → new ≡ with_attribute n name value inside.forest → IsChanged n inside.forest new
  attribute_set n name value new is_node is_element tidy size_is is = record {
    tidy = tidy;
    element = record {
      node = subst (λ (p : Page). IsNode p.forest n) (sym view_is) is_node;
      kind = subst (λ (p : Page). kind_at p.forest n ≡ ElementKind) (sym view_is) is_element;
    };
    size_is = size_is;
    name = name;
    is = inl (value, is);
  }

  pub attribute_taken : (n : ℕ) (name : List ℕ) (new : Trees) → IsNode now.forest n → kind_at now.forest n ≡ ElementKind → IsTidy inside.forest
      → size new ≡ size inside.forest
      → new ≡ without_attribute n name inside.forest → IsChanged n inside.forest new
  attribute_taken n name new is_node is_element tidy size_is is = record {
    tidy = tidy;
    element = record {
      node = subst (λ (p : Page). IsNode p.forest n) (sym view_is) is_node;
      kind = subst (λ (p : Page). kind_at p.forest n ≡ ElementKind) (sym view_is) is_element;
    };
    size_is = size_is;
    name = name;
    is = inr is;
  }
