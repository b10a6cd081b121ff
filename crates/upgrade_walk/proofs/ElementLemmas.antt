-- What is an element.
use Rattle.std.proofs.Common.{◌≡◌, ℕ, true, List, Option, refl}
use Rattle.node_trees.specs.declared.kind.NodeKind.{NodeKind}
use Rattle.node_trees.specs.declared.kind.NodeKind.TheVariants.{Document, Element, TextNode, ShadowRoot}
use Rattle.node_trees.specs.Candidates.{is_candidate}
use Rattle.node_trees.specs.Facts.{is_element}
use Rattle.node_trees.specs.Kinds.{IsElement}
use Rattle.node_trees.specs.Nodes.{IsNode}
use Rattle.node_trees.specs.Spots.{facts_at, kind_at}
use Rattle.node_trees.specs.Trees.{Trees}
use Rattle.node_trees.proofs.Elements.{candidate_element}

element_kind : (k : NodeKind) → is_element k ≡ true → k ≡ Element
element_kind Element is = refl
element_kind Document is = cc
element_kind TextNode is = cc
element_kind ShadowRoot is = cc

-- a node that the test takes for an element
pub element_is : (forest : Trees) (n : ℕ) → is_element (kind_at forest n) ≡ true → IsNode forest n → IsElement forest n
element_is forest n is node = record { node = node; kind = element_kind (kind_at forest n) is }

-- a node that a definition may upgrade
pub candidate_is : (local : List ℕ) (value : Option (List ℕ)) (forest : Trees) (n : ℕ) → is_candidate local value (facts_at forest n) ≡ true → IsNode forest n
    → IsElement forest n
candidate_is local value forest n is = element_is forest n (candidate_element local value (facts_at forest n) is)
