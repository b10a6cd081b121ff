-- What stands at a node, read off the nesting.
use Rattle.std.specs.Prelude.{ℕ, ◌==◌, if◌then◌else◌, List, [], ◌∷◌, Option, Some, None}
use Rattle.std.specs.Option.{option_or}
use Rattle.node_trees.specs.declared.kind.NodeKind.{NodeKind}
use Rattle.node_trees.specs.declared.kind.NodeKind.TheVariants.{Document}
use Rattle.node_trees.specs.Facts.{Facts, blank, value_in}
use Rattle.node_trees.specs.Trees.{Trees, none, tree, roots}

-- the facts of a node, and the numbers of its parent, its host, its shadow root in a list of at most one, and its children
pub record Spot : Type 0 where
  pub facts : Facts
  pub parent : Option ℕ
  pub host : Option ℕ
  pub shadow : List ℕ
  pub children : List ℕ

abbrev pub spot_of : Facts → Option ℕ → Option ℕ → Trees → Trees → Spot
spot_of x parent host shadow children = record { facts = x; parent = parent; host = host; shadow = roots shadow; children = roots children }

-- what stands at n in a list of trees under this parent and this host
abbrev pub spot_in : Option ℕ → Option ℕ → ℕ → Trees → Option Spot
spot_in parent host n none = None
spot_in parent host n (tree m x shadow children rest) =
    if m == n then Some (spot_of x parent host shadow children)
    else option_or (spot_in None (Some m) n shadow) (option_or (spot_in (Some m) None n children) (spot_in parent host n rest))

-- what stands at n in the forest
abbrev pub spot : Trees → ℕ → Option Spot
spot forest n = spot_in None None n forest

-- what stands for a number that no node has
abbrev pub no_spot : Spot
no_spot = record { facts = blank Document 1; parent = None; host = None; shadow = []; children = [] }

abbrev pub or_no_spot : Option Spot → Spot
or_no_spot None = no_spot
or_no_spot (Some s) = s

abbrev pub spot_at : Trees → ℕ → Spot
spot_at forest n = or_no_spot (spot forest n)

abbrev pub facts_at : Trees → ℕ → Facts
facts_at forest n = (spot_at forest n).facts

abbrev pub kind_at : Trees → ℕ → NodeKind
kind_at forest n = (facts_at forest n).kind

-- the value of an attribute of n
abbrev pub attribute_at : Trees → ℕ → List ℕ → Option (List ℕ)
attribute_at forest n name = value_in (facts_at forest n).attributes name

-- the node document of n
abbrev pub document_at : Trees → ℕ → ℕ
document_at forest n = (facts_at forest n).document

-- the parent of n; a root has none (DOM Standard, section "Trees", "parent")
abbrev pub parent_at : Trees → ℕ → Option ℕ
parent_at forest n = (spot_at forest n).parent

-- the host of a shadow root (DOM Standard, section "Interface ShadowRoot", "host")
abbrev pub host_at : Trees → ℕ → Option ℕ
host_at forest n = (spot_at forest n).host

abbrev pub first_of : List ℕ → Option ℕ
first_of [] = None
first_of (n ∷ ns) = Some n

-- the shadow root of n (DOM Standard, section "Interface Element", "shadow root")
abbrev pub shadow_at : Trees → ℕ → Option ℕ
shadow_at forest n = first_of (spot_at forest n).shadow

-- the children of n, in order
abbrev pub children_at : Trees → ℕ → List ℕ
children_at forest n = (spot_at forest n).children

abbrev pub first_child_at : Trees → ℕ → Option ℕ
first_child_at forest n = first_of (children_at forest n)

-- what follows n in a list
abbrev pub after : ℕ → List ℕ → Option ℕ
after n [] = None
after n (m ∷ ms) = if m == n then first_of ms else after n ms

abbrev pub next_among : Trees → ℕ → Option ℕ → Option ℕ
next_among forest n None = None
next_among forest n (Some p) = after n (children_at forest p)

-- the next sibling of n (DOM Standard, section "Trees", "next sibling")
abbrev pub next_sibling_at : Trees → ℕ → Option ℕ
next_sibling_at forest n = next_among forest n (parent_at forest n)
