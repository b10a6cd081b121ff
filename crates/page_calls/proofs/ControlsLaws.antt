-- A list that is copied from nodes is one of nodes.
use Rattle.std.proofs.Common.{◌≡◌, All, ℕ, List, Result, Ok, Err, subst, sym}
use Rattle.std.specs.Prelude.{IfOk}
use Rattle.node_trees.specs.Nodes.{IsNode}
use Rattle.node_trees.specs.Trees.{Trees}

pub copied-nodes : {E : Type 0} (f : Trees) (result : Result (List ℕ) E) (from : List ℕ) → All (IsNode f) from → IfOk result (λ ns. ns ≡ from)
    → IfOk result (All (IsNode f))
copied-nodes f (Ok ns) from nodes copied = subst (All (IsNode f)) (sym copied) nodes
copied-nodes f (Err e) from nodes copied = tt
