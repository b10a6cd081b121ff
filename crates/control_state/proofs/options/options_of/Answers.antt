use Rattle.std.proofs.Common.{All, ◌∙◌, ap, subst, sym, ◌++◌}
use Rattle.node_trees.specs.Nodes.{IsNode}
use Rattle.form_controls.specs.Options.{options_at, options_of}
use Rattle.control_state.proofs.Walks.{walk-on, walk-less, walk-ends}
use Rattle.control_state.proofs.Listing.{grown-parts, options-nodes}
use Rattle.control_state.proofs.options.options_of.Goals as goal

pub loop-next-smaller : goal.loop-next-smaller
loop-next-smaller c = walk-less _ _ c.count-count.ensures.tidy c.requires _ _ _ _ _ _ c.loop-next.invariant c.in-Some.is c.next_sibling-next.ensures.sibling

pub loop-next-preserved : goal.loop-next-preserved
loop-next-preserved c = walk-on _ _ c.count-count.ensures.tidy c.requires _ _ _ _ _ _ _ c.loop-next.invariant c.in-Some.is c.next_sibling-next.ensures.sibling
    c.in_ok-list_at.ensures

pub returns-clause-list : goal.returns-clause-list
returns-clause-list c =
    walk-ends _ _ _ _ _ _ c.loop-next.invariant c.in_default.is
    ∙ grown-parts (options_at c.args.tree.now) c.make-list.result _
    ∙ ap (λ v. v ++ options_of c.args.tree.now c.args.select) c.make-list.ensures

pub returns-clause-nodes : goal.returns-clause-nodes
returns-clause-nodes c = subst (All (IsNode c.args.tree.now)) (sym (returns-clause-list c))
    (options-nodes c.args.tree.now c.count-count.ensures.tidy c.args.select c.requires)
