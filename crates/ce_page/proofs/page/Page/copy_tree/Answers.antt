use Rattle.std.proofs.Common.{◌≡◌, true, [], ap, sym, ◌∙◌, subst, rules, arith}
use Rattle.std.proofs.lemmas.Grind.{common_steps}
use Rattle.node_trees.specs.Facts.{is_element, is_text}
use Rattle.node_trees.specs.Links.{below, AreRead}
use Rattle.node_trees.specs.Nodes.{IsNode}
use Rattle.node_trees.specs.Spots.{children_at, facts_at, kind_at}
use Rattle.node_trees.specs.Trees.{none, roots, tree_of}
use Rattle.ce_algorithms.specs.Page.{Page}
use Rattle.ce_page.specs.Ends.{work}
use Rattle.ce_page.proofs.CopyLemmas.{alone_apart, copied_no_document}
use Rattle.ce_page.proofs.ElementLemmas.{node_kept}
use Rattle.ce_page.proofs.TodoLemmas.{begun, copied, copied_parent, from_node, is_text_kind, next, onward, turn}
use Rattle.ce_page.proofs.page.Page.copy_tree.Goals as goal

pub loop-next-init : goal.loop-next-init
loop-next-init c =
    let fresh = c.in_ok-top.ensures.fresh in
    let numbers = subst (λ (p : Page). c.in_ok-children.children ≡ roots (below (tree_of c.args.node p.forest))) c.self.view_is
    (c.in_ok-children.ensures.children ∙ c.in_ok-children.ensures.below) in
    let read = subst (λ (p : Page). AreRead p.forest (below (tree_of c.args.node p.forest))) c.self.view_is c.in_ok-children.ensures.read in
    let lacking = subst (λ (p : Page). is_text (kind_at p.forest c.args.node) ≡ true
    → below (tree_of c.args.node p.forest) ≡ none) c.self.view_is c.in_ok-children.ensures.lacking in
    let loose = copied_no_document (is_element (kind_at c.args.self.now.forest c.args.node)) _ fresh.kind_is in
    let parent = copied_parent c.args.self.now.forest c.copy_node.new.self.forest c.in_ok-top.top _ (is_element (kind_at c.args.self.now.forest c.args.node))
    (λ other. lacking (is_text_kind _ c.requires.allowed other)) fresh.later fresh.node fresh.kind_is (alone_apart _ _ fresh.alone loose) in
    record {
      copying = begun _ _ c.args.node c.in_ok-top.top (facts_at c.args.self.now.forest c.args.node) _ c.in_ok-children.children _
          (work c.args.self.now c.args.fuel.now)
          (work c.copy_node.new.self c.copy_node.new.fuel) numbers read parent fresh.others c.copy_node.ensures.within.nodes
          (rw c.new-todo.ensures.items at c.in_ok-push_below.ensures) c.in_ok-top.ensures.step;
      within = c.copy_node.ensures.within;
      made = fresh.node;
    }

pub children-requires-in-Some : goal.children-requires-in-Some
children-requires-in-Some c =
    subst (λ (p : Page). IsNode p.forest c.in-Some.next.from) (sym c.self-in-Some.view_is)
    (from_node c.loop-next.invariant.copying c.in-Some.next c.pop.new.self.items c.in-Some.ensures.items)

pub copy_into-requires-clause-parent : goal.copy_into-requires-clause-parent
copy_into-requires-clause-parent c = (turn c.loop-next.invariant.copying c.in-Some.next c.pop.new.self.items c.in-Some.ensures.items).parent.element

pub copy_into-requires-clause-apart : goal.copy_into-requires-clause-apart
copy_into-requires-clause-apart c = (turn c.loop-next.invariant.copying c.in-Some.next c.pop.new.self.items c.in-Some.ensures.items).parent.apart

pub copy_into-requires-clause-node : goal.copy_into-requires-clause-node
copy_into-requires-clause-node c = from_node c.loop-next.invariant.copying c.in-Some.next c.pop.new.self.items c.in-Some.ensures.items

pub returns-in_err-n-clause-step : goal.returns-in_err-n-clause-step
returns-in_err-n-clause-step c =
    let stopped = c.in_err-n.ensures.step in
    let all = onward c.loop-next.invariant.copying c.in-Some.next c.pop.new.self.items c.in-Some.ensures.items in
    grind (arith, common_steps, stopped, all)

pub loop-next-preserved : goal.loop-next-preserved
loop-next-preserved c =
    let copied = c.in_ok-n.ensures.copied in
    let children = c.in_ok-children-2.ensures.children ∙ ap (λ (p : Page). children_at p.forest c.in-Some.next.from) c.self-in-Some.view_is in
    record {
      copying = next c.loop-next.invariant.copying c.in-Some.next c.pop.new.self.items c.in-Some.ensures.items _ c.in_ok-n.n _ c.in_ok-children-2.children _
          c.in_ok-n.ensures.step copied children c.in_ok-push_below-2.ensures;
      within = search rules;
      made = node_kept _ _ copied.kinds c.loop-next.invariant.made;
    }

pub returns-clause-step : goal.returns-clause-step
returns-clause-step c =
    let empty : c.loop-next.todo.items ≡ [] = grind (arith, common_steps) in
    copied c.loop-next.invariant.copying empty
