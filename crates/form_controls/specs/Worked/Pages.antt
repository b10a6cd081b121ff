-- Pages, written out as lists of trees.
use Rattle.std.specs.Prelude.{ℕ, List, [], ◌∷◌, codes, None}
use Rattle.node_trees.specs.declared.kind.NodeKind.TheVariants.{Document, ShadowRoot}
use Rattle.node_trees.specs.Facts.{blank, new_element, new_text}
use Rattle.node_trees.specs.Trees.{Trees, none, tree, single, join}

-- trees one behind another
abbrev pub joined : List Trees → Trees
joined [] = none
joined (t ∷ ts) = join t (joined ts)

-- an element with its attributes, and what is below it
abbrev pub element : ℕ → List ℕ → List (List ℕ × List ℕ) → List Trees → Trees
element n local attributes children = tree n (record (new_element local None 1) { attributes = attributes }) none (joined children) none

-- an element whose shadow root has a number and children of its own
abbrev pub host : ℕ → List ℕ → List (List ℕ × List ℕ) → ℕ → List Trees → List Trees → Trees
host n local attributes root inside children =
    tree n (record (new_element local None 1) { attributes = attributes }) (tree root (blank ShadowRoot 1) none (joined inside) none) (joined children) none

abbrev pub text : ℕ → List ℕ → Trees
text n chars = single n (new_text chars 1)

-- a page's document with what is in it, and the other trees
abbrev pub page : List Trees → List Trees → Trees
page children others = tree 1 (blank Document 1) none (joined children) (joined others)

-- one in whose document an html element stands alone
abbrev pub html : List Trees → List Trees → Trees
html children others = page (element 2 (codes "html") [] children ∷ []) others
