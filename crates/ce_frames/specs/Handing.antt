-- All frames are handed, and hand down, what an operation gives. Algorithms that give nothing, a node, or a node or
-- nothing, are written so, and read back so.
use Rattle.std.specs.Prelude.{ℕ, Option, Some, None}
use Rattle.ce_base.specs.declared.fault.Fault.TheVariants.{TypeError}
use Rattle.ce_algorithms.specs.declared.given.Given.{Given}
use Rattle.ce_algorithms.specs.declared.given.Given.TheVariants.{Nothing, Node}
use Rattle.ce_algorithms.specs.Steps.{Outcome, then_do, give, done, found}
use Rattle.ce_algorithms.specs.State.{State}

-- written

-- of an algorithm that gives nothing
abbrev pub nothing : Outcome State (Unit {0}) → Outcome State Given
nothing o = then_do o (λ _. give Nothing)

-- of one that gives a node
abbrev pub a_node : Outcome State ℕ → Outcome State Given
a_node o = then_do o (λ n. give (Node n))

-- the result of a body: a node or nothing
abbrev pub given_of : Option ℕ → Given
given_of None = Nothing
given_of (Some n) = Node n

-- of a body
abbrev pub a_result : Outcome State (Option ℕ) → Outcome State Given
a_result o = then_do o (λ result. give (given_of result))

-- read back

-- where nothing was to be given
abbrev pub dropped : Outcome State Given → Outcome State (Unit {0})
dropped o = then_do o (λ _. done)

-- the node that was given, if one was
abbrev pub node_in : Given → Option ℕ
node_in (Node n) = Some n
node_in given = None

-- where a node was to be given; what gave none throws, and no frame ever meets that
abbrev pub numbered : Outcome State Given → Outcome State ℕ
numbered o = then_do o (λ given. found (node_in given) TypeError)

-- where the result of a body was to be given
abbrev pub resulted : Outcome State Given → Outcome State (Option ℕ)
resulted o = then_do o (λ given. give (node_in given))
