-- What steps give.
use Rattle.std.proofs.Common.{◌≡◌, ℕ, ap, arith}
use Rattle.std.specs.Prelude.{IfOk, Result, Ok, Err}
use Rattle.node_trees.specs.Nodes.{IsNode}
use Rattle.node_trees.specs.Trees.{Trees}
use Rattle.ce_algorithms.specs.declared.given.Given.TheVariants.{Nothing, Node}
use Rattle.ce_algorithms.specs.Page.{Page}
use Rattle.ce_algorithms.specs.Steps.{Outcome, then_do, give}
use Rattle.ce_page.specs.Ends.{Does, Ends, Keeps, NeverRefuses}
use Rattle.ce_page.specs.Numbers.{GrowsWithin, StaysWithin}
use Rattle.ce_page.specs.declared.stop.PageStop.{PageStop}
use Rattle.ce_page.specs.declared.stop.PageStop.TheVariants.{Refused, FuelSpent, NoMemory}
use Rattle.page_calls.specs.Given.{IsThere, node_of, nothing_of}

-- steps that give nothing
pub nothing_ends : {S : Type 0} (r : Result (Unit {0}) PageStop) (s : S) (o : Outcome S (Unit {0})) → Does r s o
    → Ends (λ g. g) (nothing_of r) s (then_do o (λ _. give Nothing))
nothing_ends (Ok x) s o e = ap (λ o. then_do o (λ _. give Nothing)) e
nothing_ends (Err (Refused f)) s o e = ap (λ o. then_do o (λ _. give Nothing)) e
nothing_ends (Err FuelSpent) s o e = ap (λ o. then_do o (λ _. give Nothing)) e
nothing_ends (Err NoMemory) s o e = tt

-- steps that give a node
pub node_ends : {S : Type 0} (r : Result ℕ PageStop) (s : S) (o : Outcome S ℕ) → Ends (λ n. n) r s o
    → Ends (λ g. g) (node_of r) s (then_do o (λ n. give (Node n)))
node_ends (Ok n) s o e = ap (λ o. then_do o (λ n. give (Node n))) e
node_ends (Err (Refused f)) s o e = ap (λ o. then_do o (λ n. give (Node n))) e
node_ends (Err FuelSpent) s o e = ap (λ o. then_do o (λ n. give (Node n))) e
node_ends (Err NoMemory) s o e = tt

-- where no node was made
pub grows_where_it_stays : (old new : Page) (before now : ℕ) → StaysWithin old new before now → GrowsWithin old new before now
grows_where_it_stays old new before now h =
    let nodes = h.nodes in
    record { reactions = h.reactions; fuel = h.fuel; pushed = h.pushed; depth = h.depth; nodes = omega (arith, nodes) }

-- a fault leaves the page as it was

pub keeps_unrefused : {A : Type 0} (r : Result A PageStop) (old new : Page) → NeverRefuses r → Keeps r old new
keeps_unrefused (Ok a) old new h = tt
keeps_unrefused (Err (Refused f)) old new h = absurd h
keeps_unrefused (Err FuelSpent) old new h = tt
keeps_unrefused (Err NoMemory) old new h = tt

pub nothing_keeps : (r : Result (Unit {0}) PageStop) (old new : Page) → Keeps r old new → Keeps (nothing_of r) old new
nothing_keeps (Ok x) old new h = tt
nothing_keeps (Err (Refused f)) old new h = h
nothing_keeps (Err FuelSpent) old new h = tt
nothing_keeps (Err NoMemory) old new h = tt

pub node_keeps : (r : Result ℕ PageStop) (old new : Page) → Keeps r old new → Keeps (node_of r) old new
node_keeps (Ok n) old new h = tt
node_keeps (Err (Refused f)) old new h = h
node_keeps (Err FuelSpent) old new h = tt
node_keeps (Err NoMemory) old new h = tt

-- a node that is given is there
pub node_there : (r : Result ℕ PageStop) (f : Trees) → IfOk r (IsNode f) → IfOk (node_of r) (IsThere f)
node_there (Ok n) f h = h
node_there (Err stop) f h = tt

pub nothing_there : (r : Result (Unit {0}) PageStop) (f : Trees) → IfOk (nothing_of r) (IsThere f)
nothing_there (Ok x) f = tt
nothing_there (Err stop) f = tt
