-- What is noted of whether nodes are connected.
use Rattle.std.specs.Prelude.{◌≡◌, ℕ, ◌-◌, ◌<◌, Bool, true, false, List, slice_get, Option, Some, None, ⊤}
use Rattle.node_trees.specs.Trees.{Trees}
use Rattle.node_trees.specs.Nodes.{IsNode}
use Rattle.node_trees.specs.Orders.{order_of}
use Rattle.node_trees.specs.Paths.{connected, is_among}
use Rattle.node_arena.specs.declared.marks.Mark.{Mark}
use Rattle.node_arena.specs.declared.marks.Mark.TheVariants.{Unknown, Connected, Apart}

-- the note of the node n, where there is one; the first is that of node 1
abbrev pub mark_at : List Mark → ℕ → Option Mark
mark_at marks n = slice_get marks (n - 1)

-- a note, or none, says nothing that is wrong of a node that is connected or not
abbrev pub Allows : Option Mark → Bool → Type 0
Allows None is = ⊤
Allows (Some Unknown) is = ⊤
Allows (Some Connected) is = is ≡ true
Allows (Some Apart) is = is ≡ false

-- what is noted of the nodes is so
abbrev pub MarksHold : List Mark → Trees → Type 0
MarksHold marks f = (n : ℕ) → IsNode f n → Allows (mark_at marks n) (connected f n)

-- the notes of this node say no more than they did
abbrev pub SaysLess : List Mark → List Mark → ℕ → Type 0
SaysLess old new m = (is : Bool) → Allows (mark_at old m) is → Allows (mark_at new m) is

-- the notes of n and of all below it are those of nodes that are connected, or are not, and those of others say no more than they did
pub record AreNoted (f : Trees) (n : ℕ) (is : Bool) (old new : List Mark) : Type 0 where
  pub below : (m : ℕ) → is_among m (order_of f n) ≡ true → 0 < m → Allows (mark_at new m) is
  pub others : (m : ℕ) → is_among m (order_of f n) ≡ false → 0 < m → SaysLess old new m
