-- The forest as which links are seen: they are those of one at most.
use Rattle.std.specs.Prelude.{◌≡◌, List}
use Rattle.std.proofs.Common.{subst}
use mathlib.Core.HLevel.{Σ_prop_path}
use Rattle.node_trees.specs.Trees.{Trees}
use Rattle.node_arena.specs.Links.{Link, IsLinked}
use Rattle.node_arena.specs.OneForest.{IsLinked-prop, IsLinked-unique}

-- the forest of links, with the fact that it is theirs
abbrev pub Forest : List Link → Type 0
Forest links = (forest : Trees) × IsLinked links forest

pub Forest-prop : (links : List Link) → IsProp (Forest links)
Forest-prop links a b = Σ_prop_path (IsLinked-prop links) (IsLinked-unique links a.0 b.0 a.1 b.1)

unfoldable pub seen : (links : List Link) → Forest links → Trees
seen links a = a.0

pub seen_is : (links : List Link) (a : Forest links) (f : Trees) → IsLinked links f → seen links a ≡ f
unfolding seen
seen_is links a f is = IsLinked-unique links a.0 f a.1 is

pub seen_fact : (links : List Link) (a : Forest links) (f : Trees) → seen links a ≡ f → IsLinked links f
unfolding seen
seen_fact links a f is = subst (IsLinked links) is a.1
