-- Node trees as nested lists (DOM Standard, sections "Trees", "Node tree", "Shadow tree"), and the forest of all nodes
-- that were made: a list of trees, in the order of their roots' numbers.
use Rattle.std.specs.Prelude.{ℕ, Bool, false, ◌==◌, nat_lt, if◌then◌else◌, List, [], ◌∷◌, Option, None, Some}
use Rattle.node_trees.specs.Facts.{Facts, with_value, without_value}

-- A list of trees. It is empty, or begins with a tree: the number and the facts of its root, the root's shadow tree in
-- a list of at most one, the trees of its children. The other trees of the list follow.
pub data Trees : Type 0 where
  none : Trees
  tree : (number : ℕ) → (facts : Facts) → (shadow children rest : Trees) → Trees

-- the numbers of the roots
abbrev pub roots : Trees → List ℕ
roots none = []
roots (tree m x shadow children rest) = m ∷ roots rest

-- one list of trees behind another
abbrev pub join : Trees → Trees → Trees
join none others = others
join (tree m x shadow children rest) others = tree m x shadow children (join rest others)

-- the tree whose root is n, alone
abbrev pub tree_of : ℕ → Trees → Trees
tree_of n none = none
tree_of n (tree m x shadow children rest) =
    if m == n then tree m x shadow children none else join (tree_of n shadow) (join (tree_of n children) (tree_of n rest))

-- the trees without that of n
abbrev pub without : ℕ → Trees → Trees
without n none = none
without n (tree m x shadow children rest) =
    if m == n then rest else tree m x (without n shadow) (without n children) (without n rest)

-- new nodes

-- a tree of one node
abbrev pub single : ℕ → Facts → Trees
single n x = tree n x none none none

-- a new node as the last root: its number is greater than any
abbrev pub with_node : ℕ → Facts → Trees → Trees
with_node n x forest = join forest (single n x)

-- a tree put at a host as its shadow tree (DOM Standard, section "Interface Element", "attach a shadow root")
abbrev pub with_shadow : ℕ → Trees → Trees → Trees
with_shadow host t none = none
with_shadow host t (tree m x shadow children rest) =
    if m == host then tree m x (join shadow t) children rest
    else tree m x (with_shadow host t shadow) (with_shadow host t children) (with_shadow host t rest)

-- removal

-- a tree whose root is n put among the roots, in the order of their numbers
abbrev pub place : ℕ → Trees → Trees → Trees
place n t none = t
place n t (tree m x shadow children rest) =
    if nat_lt n m then join t (tree m x shadow children rest) else tree m x shadow children (place n t rest)

-- the tree of n taken out of the children that it stands in, and made a tree of the forest (DOM Standard, section "Mutation algorithms", "remove")
abbrev pub cut : Trees → ℕ → Trees
cut forest n = place n (tree_of n forest) (without n forest)

-- insertion

abbrev pub is_number : Option ℕ → ℕ → Bool
is_number None n = false
is_number (Some m) n = m == n

-- a tree put among siblings, before that of b, or at the end
abbrev pub before : Option ℕ → Trees → Trees → Trees
before b t none = t
before b t (tree m x shadow children rest) =
    if is_number b m then join t (tree m x shadow children rest) else tree m x shadow children (before b t rest)

-- a tree put among the children of p
abbrev pub put : ℕ → Option ℕ → Trees → Trees → Trees
put p b t none = none
put p b t (tree m x shadow children rest) =
    if m == p then tree m x shadow (before b t children) rest
    else tree m x (put p b t shadow) (put p b t children) (put p b t rest)

-- the tree of the root n put among the children of p, before b or at the end (DOM Standard, section "Mutation algorithms", "insert")
abbrev pub graft : Trees → ℕ → ℕ → Option ℕ → Trees
graft forest p n b = put p b (tree_of n forest) (without n forest)

-- changes of one node's facts

abbrev pub with_facts : ℕ → (Facts → Facts) → Trees → Trees
with_facts n change none = none
with_facts n change (tree m x shadow children rest) =
    if m == n then tree m (change x) shadow children rest
    else tree m x (with_facts n change shadow) (with_facts n change children) (with_facts n change rest)

abbrev pub with_attribute : ℕ → List ℕ → List ℕ → Trees → Trees
with_attribute n name value f = with_facts n (λ x. record x { attributes = with_value name value x.attributes }) f

abbrev pub without_attribute : ℕ → List ℕ → Trees → Trees
without_attribute n name f = with_facts n (λ x. record x { attributes = without_value name x.attributes }) f

abbrev pub with_document : ℕ → ℕ → Trees → Trees
with_document n document f = with_facts n (λ x. record x { document = document }) f
