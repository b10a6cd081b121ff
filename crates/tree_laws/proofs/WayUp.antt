-- The way up, a step at a time.
use Rattle.std.proofs.Common.{◌≡◌, ℕ, ◌<◌, ◌||◌, ◌==◌, List, [], ◌∷◌, ◌++◌, Option, Some, None, true, false, not, eqb, refl, arith, length}
use Rattle.std.specs.Prelude.{reverse}
use Rattle.std.specs.List.{find}
use Rattle.std.proofs.lemmas.Bool.Decides.{nat_tests}
use Rattle.node_trees.specs.Trees.{Trees}
use Rattle.node_trees.specs.Spots.{first_of}
use Rattle.node_trees.specs.Paths.{path, is_among, has_parent}
use Rattle.tree_laws.specs.Walks.{IsUp}
use Rattle.node_trees.specs.Nodes.{IsTidy}
use Rattle.tree_laws.proofs.Pieces.{path-long}

-- the numbers on a path
pub is_among-push : (i n : ℕ) (xs : List ℕ) → is_among i (xs ++ (n ∷ [])) ≡ (is_among i xs || n == i)
is_among-push i n [] = grind (arith, nat_tests)
is_among-push i n (x ∷ xs) = grind (arith, nat_tests, is_among-push i n xs)

-- a node is on its own path
pub among_here : (f : Trees) (i n : ℕ) (o : Option ℕ) → IsUp f n o → eqb n i ≡ true → is_among i (path n f) ≡ true
among_here f i n None up e = rw up (grind (arith, nat_tests))
among_here f i n (Some q) up e = rw up.1 (rw is_among-push (grind (arith, nat_tests)))

-- another is on it where it is on the path of what is above
pub among_above : (f : Trees) (i n q : ℕ) → IsUp f n (Some q) → eqb n i ≡ false → is_among i (path n f) ≡ is_among i (path q f)
among_above f i n q up ne = rw up.1 (rw is_among-push (grind (arith, nat_tests)))

-- another is not on it where nothing is above
pub among_none : (f : Trees) (i n : ℕ) → IsUp f n None → eqb n i ≡ false → is_among i (path n f) ≡ false
among_none f i n up ne = rw up (grind (arith, nat_tests))

-- the first of a path
pub first_of-long : (xs ys : List ℕ) → 0 < length xs → first_of (xs ++ ys) ≡ first_of xs
first_of-long [] ys pos = absurd (omega arith)
first_of-long (x ∷ xs) ys pos = refl

pub first_above : (f : Trees) (n q : ℕ) → IsTidy f → IsUp f n (Some q) → first_of (path n f) ≡ first_of (path q f)
first_above f n q a up = rw up.1 (first_of-long (path q f) (n ∷ []) (path-long q f (omega (arith, a.once q up.0))))

-- the last on a path that has no parent: from below, the first
abbrev pub rootward : Trees → List ℕ → Option ℕ
rootward f ns = find (λ m. not (has_parent f m)) (reverse ns)
