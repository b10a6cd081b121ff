-- What is above a node.
use Rattle.std.specs.Prelude.{ℕ, Bool, false, not, ◌==◌, ◌||◌, if◌then◌else◌, List, [], ◌∷◌, ◌++◌, reverse, is_some}
use Rattle.std.specs.List.{find}
use Rattle.std.specs.Prelude.{unwrap_or}
use Rattle.node_trees.specs.Facts.{is_document}
use Rattle.node_trees.specs.Trees.{Trees, none, tree}
use Rattle.node_trees.specs.Spots.{kind_at, parent_at, first_of}

-- a path, with m above it
abbrev pub under : ℕ → List ℕ → List ℕ
under m [] = []
under m (y ∷ ys) = m ∷ y ∷ ys

-- the nodes from a root down to n, where a shadow tree hangs below its host: the host-including inclusive ancestors
-- (DOM Standard, section "Interface DocumentFragment", "host-including inclusive ancestor")
abbrev pub path : ℕ → Trees → List ℕ
path n none = []
path n (tree m x shadow children rest) =
    if m == n then m ∷ [] else under m (path n shadow ++ path n children) ++ path n rest

-- whether n is one of the numbers
abbrev pub is_among : ℕ → List ℕ → Bool
is_among n [] = false
is_among n (m ∷ ms) = m == n || is_among n ms

abbrev pub has_parent : Trees → ℕ → Bool
has_parent forest n = is_some (parent_at forest n)

-- the root of n's own tree: of n and what is above it, the nearest that has no parent (DOM Standard, section "Trees", "root")
abbrev pub root_at : Trees → ℕ → ℕ
root_at forest n = unwrap_or (find (λ m. not (has_parent forest m)) (reverse (path n forest))) n

-- the root of n's tree, from each shadow root on the root of its host's (DOM Standard, section "Interface ShadowRoot", "shadow-including root")
abbrev pub shadow_including_root_at : Trees → ℕ → ℕ
shadow_including_root_at forest n = unwrap_or (first_of (path n forest)) n

-- whether that root is a document (DOM Standard, section "Shadow tree", "connected")
abbrev pub connected : Trees → ℕ → Bool
connected forest n = is_document (kind_at forest (shadow_including_root_at forest n))
