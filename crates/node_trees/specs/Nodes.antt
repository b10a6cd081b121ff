-- The nodes of a forest, and what holds of each forest that is built up by making, inserting and removing.
use Rattle.std.specs.Prelude.{◌≡◌, ℕ, Bool, true, false, not, ◌==◌, ◌||◌, ◌+◌, ◌<◌, ◌≤◌, if◌then◌else◌, Option, Some, None, ⊤, [], length}
use Rattle.std.specs.Option.{option_to_list}
use Rattle.node_trees.specs.Facts.{Facts, is_element, is_text, is_shadow_root}
use Rattle.node_trees.specs.declared.kind.NodeKind.{NodeKind}
use Rattle.node_trees.specs.Trees.{Trees, none, tree}

-- the sum of w over the nodes
abbrev pub weight : (ℕ → Facts → ℕ) → Trees → ℕ
weight w none = 0
weight w (tree m x shadow children rest) = w m x + (weight w shadow + (weight w children + weight w rest))

-- how many nodes there are
abbrev pub size : Trees → ℕ
size f = weight (λ m x. 1) f

-- how many of them have the number n
abbrev pub times : ℕ → Trees → ℕ
times n f = weight (λ m x. if m == n then 1 else 0) f

-- n is the number of a node
pub record IsNode (forest : Trees) (n : ℕ) : Type 0 where
  pub low : 0 < n
  pub high : n ≤ size forest

abbrev pub IsNodeOrNone : Trees → Option ℕ → Type 0
IsNodeOrNone forest None = Unit {0}
IsNodeOrNone forest (Some n) = IsNode forest n

-- each root's number is above those before it, and above low
abbrev pub Rises : ℕ → Trees → Type 0
Rises low none = ⊤
Rises low (tree m x shadow children rest) = (low < m) × Rises m rest

-- where a node may stand: as a root of the forest, as the root of a shadow tree, or as a child
pub data Place : Type 0 where
  AtTop : Place
  InShadow : Place
  AsChild : Place

-- documents are roots; the root of a shadow tree is a shadow root, and no other node is one
abbrev pub fits : Place → NodeKind → Bool
fits AtTop kind = not (is_shadow_root kind)
fits InShadow kind = is_shadow_root kind
fits AsChild kind = is_element kind || is_text kind

abbrev pub is_none : Trees → Bool
is_none none = true
is_none (tree m x shadow children rest) = false

-- one where it does not hold
abbrev pub unless : Bool → ℕ
unless true = 0
unless false = 1

-- how many nodes stand where their kind does not, or have a shadow tree and are no element, or have children and are a text
abbrev pub misfits : Place → Trees → ℕ
misfits place none = 0
misfits place (tree m x shadow children rest) =
    (unless (fits place x.kind) + (unless (is_none shadow || is_element x.kind) + unless (is_none children || not (is_text x.kind))))
    + (misfits InShadow shadow + (misfits AsChild children + misfits place rest))

-- a part that the kind of a node lacks is empty: the local name, the `is` value and the attributes are an element's, the characters a text's
pub record HasOwnParts (x : Facts) : Type 0 where
  pub local : is_element x.kind ≡ false → x.local ≡ []
  pub is_value : is_element x.kind ≡ false → x.is_value ≡ None
  pub attributes : is_element x.kind ≡ false → x.attributes ≡ []
  pub chars : is_text x.kind ≡ false → x.chars ≡ []

-- how much there is in the parts that the kind lacks
abbrev pub surplus_at : Facts → ℕ
surplus_at x =
    (if is_element x.kind then 0 else length x.local + (length (option_to_list x.is_value) + length x.attributes))
    + (if is_text x.kind then 0 else length x.chars)

abbrev pub surplus : Trees → ℕ
surplus f = weight (λ m x. surplus_at x) f

-- each number from 1 to the size is that of one node, and no other number is; the trees stand in the order of their
-- roots' numbers; each node stands where its kind does, and has no part that its kind lacks
pub record IsTidy (forest : Trees) : Type 0 where
  pub once : (n : ℕ) → IsNode forest n → times n forest ≡ 1
  pub only : (n : ℕ) → 0 < times n forest → IsNode forest n
  pub rises : Rises 0 forest
  pub kinds : misfits AtTop forest ≡ 0
  pub parts : surplus forest ≡ 0
