-- The nodes of the arena as links.
use Rattle.std.specs.Prelude.{◌≡◌, ℕ, ◌<◌, ◌≤◌, List, [], map, Option, Some, None}
use Rattle.std.specs.Option.{option_to_list}
use Rattle.node_trees.specs.Facts.{Facts}
use Rattle.node_arena.specs.Links.{Link}
use Rattle.node_arena.specs.declared.node.Node.{Node}

abbrev pub text_in : Option (List ℕ) → List ℕ
text_in None = []
text_in (Some t) = t

abbrev pub facts_of : Node → Facts
facts_of n = record { kind = n.kind; local = text_in n.local; is_value = n.is_value; chars = text_in n.chars; attributes = n.attributes; document = n.document }

abbrev pub link_from : Node → Link
link_from n = record {
  facts = facts_of n;
  parent = n.parent;
  host = n.host;
  shadow = option_to_list n.shadow;
  first = n.first;
  last = n.last;
  previous = n.previous;
  next = n.next;
}

abbrev pub links : List Node → List Link
links nodes = map link_from nodes

-- a node without links
pub record IsLoose (node : Node) : Type 0 where
  pub parent : node.parent ≡ None
  pub host : node.host ≡ None
  pub shadow : node.shadow ≡ None
  pub first : node.first ≡ None
  pub last : node.last ≡ None
  pub previous : node.previous ≡ None
  pub next : node.next ≡ None

-- a place of an arena of this size
abbrev pub IsPlace : ℕ → ℕ → Type 0
IsPlace size n = (0 < n) × (n ≤ size)

abbrev pub IsPlaceOrNone : ℕ → Option ℕ → Type 0
IsPlaceOrNone size None = Unit {0}
IsPlaceOrNone size (Some n) = IsPlace size n
