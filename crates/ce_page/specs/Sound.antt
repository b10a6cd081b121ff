-- What holds of each page.
use Rattle.std.specs.Prelude.{ℕ, List, Option}
use Rattle.node_trees.specs.Trees.{Trees}
use Rattle.reaction_queue.specs.declared.reaction.Reaction.{Reaction}
use Rattle.ce_algorithms.specs.Page.{Element, Page}
use Rattle.ce_page.specs.Rows.{HasRows}
use Rattle.ce_page.specs.Elements.{WaitAtElements, HoldElements}

-- what has a definition, what a reaction waits at and what a construction stack names are elements of the page
pub record IsSound (elements : List Element) (waiting : List (List (ℕ × Reaction))) (stacks : List (List (Option ℕ))) (forest : Trees) : Type 0 where
  pub rows : HasRows elements forest
  pub waits : WaitAtElements waiting forest
  pub held : HoldElements stacks forest

-- it holds of a page
abbrev pub IsSoundPage : Page → Type 0
IsSoundPage p = IsSound p.elements p.queues.waiting p.stacks p.forest
