use Rattle.node_trees.specs.Links.{below}
use Rattle.node_trees.specs.Nodes.{IsNode}
use Rattle.node_trees.specs.Spots.{facts_at}
use Rattle.node_trees.specs.Trees.{tree_of}
use Rattle.ce_page.specs.Copies.{copy_tree}
use Rattle.ce_page.specs.Ends.{work}
use Rattle.ce_page.specs.Numbers.{GrowsWithin}
use Rattle.ce_page.proofs.TodoLemmas.{IsCopying}
use Rattle.ce_page.proofs.page.Page.copy_tree.Given as goal

abbrev pub invariant-loop-next : goal.invariant-loop-next
invariant-loop-next l = record {
  copying : IsCopying l.fn.self.forest l.self.forest l.todo.items l.top
      (copy_tree l.fn.node (facts_at l.fn.self.forest l.fn.node) (below (tree_of l.fn.node l.fn.self.forest)) (work l.fn.self l.fn.fuel)) (work l.self l.fuel);
  within : GrowsWithin l.fn.self l.self l.fn.fuel l.fuel;
  made : IsNode l.self.forest l.top;
}

abbrev pub decreases-loop-next : goal.decreases-loop-next
decreases-loop-next l = l.fuel
