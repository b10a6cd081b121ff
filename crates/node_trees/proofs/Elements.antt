-- What is an element.
use Rattle.std.proofs.Common.{◌≡◌, true, ◌&&◌, List, ℕ, Option, Some, None}
use Rattle.std.specs.Str.{bytes_eq}
use Rattle.std.proofs.lemmas.Bool.{and_parts}
use Rattle.node_trees.specs.Candidates.{has_is_value, is_candidate}
use Rattle.node_trees.specs.Facts.{Facts, is_element}

-- what a definition may upgrade
pub candidate_element : (local : List ℕ) (value : Option (List ℕ)) (x : Facts) → is_candidate local value x ≡ true → is_element x.kind ≡ true
candidate_element local None x is = (and_parts (is_element x.kind) (bytes_eq x.local local) is).0
candidate_element local (Some value) x is =
    (and_parts (is_element x.kind) (bytes_eq x.local local) (and_parts (is_element x.kind && bytes_eq x.local local) (has_is_value x.is_value value) is).0).0
