-- A list without one number.
use Rattle.std.proofs.Common.{◌≡◌, ℕ, Bool, false, List, [], ◌∷◌, Option, Some, None, refl, arith}
use Rattle.std.specs.List.{list_any}
use Rattle.std.proofs.lemmas.Bool.Decides.{nat_tests}
use Rattle.node_trees.specs.Trees.{Trees, none, tree, roots, without}
use Rattle.node_trees.specs.Spots.{Spot}
pub use Rattle.tree_laws.specs.Numbers.{remove_number as lacking}

pub roots-without : (n : ℕ) (f : Trees) → roots (without n f) ≡ lacking n (roots f)
roots-without n none = refl
roots-without n (tree m x s k r) = grind (arith, nat_tests, roots-without n r)

-- a test that none passes, none of fewer passes
pub any-lacking : (p : ℕ → Bool) (n : ℕ) (ms : List ℕ) → list_any p ms ≡ false → list_any p (lacking n ms) ≡ false
any-lacking p n [] h = refl
any-lacking p n (m ∷ ms) h = grind (arith, nat_tests, any-lacking p n ms)

pub any-same : (p q : ℕ → Bool) → ((n : ℕ) → p n ≡ q n) → (ns : List ℕ) → list_any p ns ≡ list_any q ns
any-same p q same [] = refl
any-same p q same (n ∷ ns) = let e = same n in grind (arith, any-same p q same ns)

-- a spot that n was taken from
abbrev pub spot_lacking : ℕ → Option Spot → Option Spot
spot_lacking n None = None
spot_lacking n (Some s) = Some (record s { shadow = lacking n s.shadow; children = lacking n s.children })
