use Rattle.std.proofs.Common.{ap, subst, sym}
use Rattle.node_trees.specs.Spots.{Spot, facts_at}
use Rattle.node_trees.specs.Trees.{Trees}
use Rattle.node_trees.specs.declared.kind.NodeKind.TheVariants.{Element as ElementKind}
use Rattle.ce_algorithms.specs.Page.{Page}
use Rattle.ce_page.specs.Copies.{IsFresh}
use Rattle.ce_page.specs.Ends.{work}
use Rattle.ce_page.proofs.CopyLemmas.{element_copied, fresh_changed}
use Rattle.ce_page.proofs.page.Page.copy_element.Goals as goal

pub returns-clause-fresh : goal.returns-clause-fresh
returns-clause-fresh c =
    let same = ap (λ (p : Page). p.forest) c.copy_control.ensures.rest in
    subst (λ (f : Trees). IsFresh c.args.self.now.forest f ElementKind c.in_ok-n.n) (sym same)
    (fresh_changed c.in_ok-n.ensures.fresh c.copy_attributes.ensures.changes)

pub returns-clause-step : goal.returns-clause-step
returns-clause-step c =
    let same = ap (λ (s : Spot). s.facts) (c.in_ok-n.ensures.fresh.others c.args.from c.requires.node) in
    element_copied c.args.from c.in_ok-n.n (facts_at c.args.self.now.forest c.args.from) (work c.args.self.now c.args.fuel.now) _ _ _ _
    c.in_ok-n.ensures.step (rw same at c.in_ok-copy_attributes.ensures.step) c.in_ok-copy_control.ensures.page
