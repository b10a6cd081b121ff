-- A page's trees, worked through.
use Rattle.std.specs.Prelude.{ℕ, List, None, codes}
use Rattle.node_trees.specs.declared.kind.NodeKind.TheVariants.{Document, ShadowRoot}
use Rattle.node_trees.specs.Facts.{Facts, blank, new_element, new_text}
use Rattle.node_trees.specs.Trees.{Trees, none, tree, single, with_attribute}

abbrev pub element : List ℕ → Facts
element local = new_element local None 1

-- the page's document, an element html in it, and in that a div with a shadow tree and a child; a text that stands nowhere
abbrev pub page : Trees
page =
    tree 1 (blank Document 1) none
    (tree 2 (element (codes "html")) none
    (tree 3 (element (codes "div"))
    (tree 5 (blank ShadowRoot 1) none (single 6 (element (codes "p"))) none)
    (single 4 (element (codes "x-a")))
    none)
    none)
    (single 7 (new_text (codes "hi") 1))

-- the same where the div is taken out
abbrev pub page_cut : Trees
page_cut =
    tree 1 (blank Document 1) none
    (single 2 (element (codes "html")))
    (tree 3 (element (codes "div"))
    (tree 5 (blank ShadowRoot 1) none (single 6 (element (codes "p"))) none)
    (single 4 (element (codes "x-a")))
    (single 7 (new_text (codes "hi") 1)))

-- and where the text is put before the element in it
abbrev pub page_grafted : Trees
page_grafted =
    tree 1 (blank Document 1) none
    (tree 2 (element (codes "html")) none
    (tree 3 (element (codes "div"))
    (tree 5 (blank ShadowRoot 1) none (single 6 (element (codes "p"))) none)
    (tree 7 (new_text (codes "hi") 1) none none (single 4 (element (codes "x-a"))))
    none)
    none)
    none

-- one id in the shadow tree and once outside it, and another id outside it
abbrev pub page_named : Trees
page_named = with_attribute 6 (codes "id") (codes "a") (with_attribute 4 (codes "id") (codes "a") (with_attribute 2 (codes "id") (codes "b") page))
