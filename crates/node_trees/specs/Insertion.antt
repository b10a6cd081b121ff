-- Whether a node may be inserted.
use Rattle.std.specs.Prelude.{ℕ, Bool, true, not, ◌&&◌, ◌||◌, if◌then◌else◌, Option, Some, None}
use Rattle.std.specs.List.{list_any}
use Rattle.ce_base.specs.declared.fault.Fault.{Fault}
use Rattle.ce_base.specs.declared.fault.Fault.TheVariants.{HierarchyRequestError, NotFoundError}
use Rattle.node_trees.specs.Facts.{is_document, is_element, is_text, is_shadow_root}
use Rattle.node_trees.specs.Trees.{Trees, is_number}
use Rattle.node_trees.specs.Spots.{kind_at, parent_at, children_at}
use Rattle.node_trees.specs.Paths.{path, is_among}

-- whether b is none, or a child of p
abbrev pub is_child_or_none : Trees → ℕ → Option ℕ → Bool
is_child_or_none forest p None = true
is_child_or_none forest p (Some b) = is_number (parent_at forest b) p

-- whether n has an element among its children
abbrev pub has_element_child : Trees → ℕ → Bool
has_element_child forest n = list_any (λ c. is_element (kind_at forest c)) (children_at forest n)

-- The fault of the first test that holds, or none: whether the node n may be put among the children of p, before b or
-- at the end (DOM Standard, section "Mutation algorithms", "ensure pre-insert validity"). A document takes one element
-- child: it refuses another, and its own too.
abbrev pub may_insert : Trees → ℕ → ℕ → Option ℕ → Option Fault
may_insert forest p n b =
    if is_text (kind_at forest p) then Some HierarchyRequestError
    else if is_among n (path p forest) then Some HierarchyRequestError
    else if not (is_child_or_none forest p b) then Some NotFoundError
    else if is_document (kind_at forest n) || is_shadow_root (kind_at forest n) then Some HierarchyRequestError
    else if is_text (kind_at forest n) && is_document (kind_at forest p) then Some HierarchyRequestError
    else if is_document (kind_at forest p) && has_element_child forest p then Some HierarchyRequestError
    else None
