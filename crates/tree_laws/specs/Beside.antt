-- What stands beside a number in a list.
use Rattle.std.specs.Prelude.{ℕ, if◌then◌else◌, List, [], ◌∷◌, Option, Some, None}
use Rattle.node_trees.specs.Trees.{is_number}

-- what stands before b, or last where b is none, in a list that comes behind a
abbrev pub before_from : Option ℕ → Option ℕ → List ℕ → Option ℕ
before_from a b [] = a
before_from a b (m ∷ ms) = if is_number b m then a else before_from (Some m) b ms

-- what stands before b; the last where b is none
abbrev pub before : Option ℕ → List ℕ → Option ℕ
before b ms = before_from None b ms
