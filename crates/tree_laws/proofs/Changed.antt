-- What is read after one node's facts were changed.
use Rattle.std.proofs.Common.{◌≡◌, ◌≢◌, ℕ, ◌==◌, if◌then◌else◌, Option, Some, None, refl, arith}
use Rattle.std.proofs.lemmas.Bool.Decides.{nat_tests}
use Rattle.std.specs.Option.{option_or}
use Rattle.node_trees.specs.Facts.{Facts}
use Rattle.node_trees.specs.Trees.{Trees, none, tree, roots, with_facts}
use Rattle.node_trees.specs.Nodes.{times, size}
use Rattle.node_trees.specs.Paths.{path}
use Rattle.node_trees.specs.Spots.{Spot, spot_in}
use Rattle.node_trees.proofs.Weights.{weight-with}

module _ (n : ℕ) (c : Facts → Facts) where
  pub roots-with : (f : Trees) → roots (with_facts n c f) ≡ roots f
  roots-with none = refl
  roots-with (tree m x s k r) = grind (arith, nat_tests, roots-with r)

  pub path-with : (i : ℕ) (f : Trees) → path i (with_facts n c f) ≡ path i f
  path-with i none = refl
  path-with i (tree m x s k r) = grind (arith, nat_tests, path-with i s, path-with i k, path-with i r)

  pub size-with : (f : Trees) → size (with_facts n c f) ≡ size f
  size-with = weight-with (λ m x. 1) n c (λ x. refl)

  pub times-with : (i : ℕ) (f : Trees) → times i (with_facts n c f) ≡ times i f
  times-with i = weight-with (λ m x. if m == i then 1 else 0) n c (λ x. refl)

-- a spot with other facts
abbrev pub changed : (Facts → Facts) → Option Spot → Option Spot
changed c None = None
changed c (Some s) = Some (record s { facts = c s.facts })

changed-or : (c : Facts → Facts) (a b : Option Spot) → changed c (option_or a b) ≡ option_or (changed c a) (changed c b)
changed-or c None b = refl
changed-or c (Some a) b = refl

module _ (n : ℕ) (c : Facts → Facts) where
  pub spot-with-other : (p h : Option ℕ) (i : ℕ) (f : Trees) → i ≢ n → spot_in p h i (with_facts n c f) ≡ spot_in p h i f
  spot-with-other p h i none ne = refl
  spot-with-other p h i (tree m x s k r) ne =
      grind (
        arith,
        nat_tests,
        roots-with n c s,
        roots-with n c k,
        spot-with-other None (Some m) i s ne,
        spot-with-other (Some m) None i k ne,
        spot-with-other p h i r ne,
      )

  pub spot-with-here : (p h : Option ℕ) (f : Trees) → spot_in p h n (with_facts n c f) ≡ changed c (spot_in p h n f)
  spot-with-here p h none = refl
  spot-with-here p h (tree m x s k r) =
      grind (
        arith,
        nat_tests,
        spot-with-here None (Some m) s,
        spot-with-here (Some m) None k,
        spot-with-here p h r,
        changed-or c (spot_in None (Some m) n s) (option_or (spot_in (Some m) None n k) (spot_in p h n r)),
        changed-or c (spot_in (Some m) None n k) (spot_in p h n r),
      )
