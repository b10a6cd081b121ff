-- What an allowed insertion says of the parent.
use Rattle.std.proofs.Common.{◌≡◌, ℕ, Bool, true, false, ◌&&◌, ◌||◌, if◌then◌else◌, Option, Some, None, refl}
use Rattle.std.specs.Prelude.{not}
use Rattle.ce_base.specs.declared.fault.Fault.{Fault}
use Rattle.ce_base.specs.declared.fault.Fault.TheVariants.{HierarchyRequestError, NotFoundError}
use Rattle.node_trees.specs.Facts.{is_document, is_shadow_root, is_text}
use Rattle.node_trees.specs.Trees.{Trees}
use Rattle.node_trees.specs.Insertion.{may_insert, is_child_or_none, has_element_child}
use Rattle.node_trees.specs.Paths.{path, is_among}
use Rattle.node_trees.specs.Spots.{kind_at}

-- it is not below the node
pub not_inside : (f : Trees) (p n : ℕ) (b : Option ℕ) → may_insert f p n b ≡ None → is_among n (path p f) ≡ false
not_inside f p n b may = go (is_text (kind_at f p)) (is_among n (path p f)) may
  where
    others : Option Fault
    others =
        if not (is_child_or_none f p b) then Some NotFoundError
        else if is_document (kind_at f n) || is_shadow_root (kind_at f n) then Some HierarchyRequestError
        else if is_text (kind_at f n) && is_document (kind_at f p) then Some HierarchyRequestError
        else if is_document (kind_at f p) && has_element_child f p then Some HierarchyRequestError
        else None

    go : (text inside : Bool) → (if text then Some HierarchyRequestError else if inside then Some HierarchyRequestError else others) ≡ None → inside ≡ false
    go true inside e = absurd (let x : Some HierarchyRequestError ≡ None = e in cc)
    go false true e = absurd (let x : Some HierarchyRequestError ≡ None = e in cc)
    go false false e = refl
