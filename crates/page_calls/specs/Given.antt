-- What a deed gives, by what its steps gave.
use Rattle.std.specs.Prelude.{ℕ, Result, Ok, Err}
use Rattle.node_trees.specs.Nodes.{IsNode}
use Rattle.node_trees.specs.Trees.{Trees}
use Rattle.ce_algorithms.specs.declared.given.Given.{Given}
use Rattle.ce_algorithms.specs.declared.given.Given.TheVariants.{Nothing, Node}
use Rattle.ce_page.specs.declared.stop.PageStop.{PageStop}

-- a node that is given is there
abbrev pub IsThere : Trees → Given → Type 0
IsThere f (Node n) = IsNode f n
IsThere f given = Unit {0}

-- steps that give nothing
abbrev pub nothing_of : Result (Unit {0}) PageStop → Result Given PageStop
nothing_of (Ok x) = Ok Nothing
nothing_of (Err stop) = Err stop

-- steps that give a node
abbrev pub node_of : Result ℕ PageStop → Result Given PageStop
node_of (Ok n) = Ok (Node n)
node_of (Err stop) = Err stop
