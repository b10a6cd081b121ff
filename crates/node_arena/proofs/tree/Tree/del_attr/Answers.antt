use Rattle.std.proofs.Common.{sym, ◌∙◌, ap, refl}
use Rattle.node_trees.specs.Facts.{without_value}
use Rattle.node_trees.specs.Nodes.{size}
use Rattle.tree_laws.proofs.Changed.{size-with}
use Rattle.tree_laws.proofs.NodeKinds.{kinds-with}
use Rattle.tree_laws.proofs.OtherSpots.{spots-with}
use Rattle.tree_laws.proofs.Surplus.{keeps-attributes}
use Rattle.node_arena.specs.Links.{link_in}
use Rattle.node_arena.specs.Seen.{seen_fact, seen_is}
use Rattle.node_arena.proofs.Calls.{written, written_covers, in_slice, altered, own_link}
use Rattle.node_arena.proofs.MarkLemmas.{hold_same, hold_with}
use Rattle.node_arena.proofs.tree.Tree.del_attr.Goals as goal

pub remove_attribute-requires : goal.remove_attribute-requires
remove_attribute-requires c = in_slice _ _ _ (seen_fact _ _ _ c.self.view_is) c.deref_mut.ensures.value _ c.requires.node

pub invariant_of-self-inside : goal.invariant_of-self-inside
invariant_of-self-inside c = (
  (
    _,
    altered _ _ _ _ _ c.args.node _ (seen_fact _ _ _ c.self.view_is) c.requires.node
        (keeps-attributes _ _ (without_value c.args.name.now) (seen_fact _ _ _ c.self.view_is).tidy c.requires.node c.requires.element)
        c.deref_mut.ensures.value
        (written _ _ _ _ c.deref_mut.ensures.value c.self.inside.nodes.ok.0 c.remove_attribute.auto.nodes) c.remove_attribute.ensures.left,
  ),
  tt,
)

pub returns-clause-left : goal.returns-clause-left
returns-clause-left c = seen_is _ _ _
    (altered _ _ _ _ _ c.args.node _ (seen_fact _ _ _ c.self.view_is) c.requires.node
    (keeps-attributes _ _ (without_value c.args.name.now) (seen_fact _ _ _ c.self.view_is).tidy c.requires.node c.requires.element) c.deref_mut.ensures.value
    (written _ _ _ _ c.deref_mut.ensures.value c.self.inside.nodes.ok.0 c.remove_attribute.auto.nodes) c.remove_attribute.ensures.left)

pub invariant_of-self : goal.invariant_of-self
invariant_of-self c = (
  written_covers _ _ _ _ _ _ c.deref_mut.ensures.value
      (written _ _ _ _ c.deref_mut.ensures.value c.self.inside.nodes.ok.0 c.remove_attribute.auto.nodes) c.remove_attribute.ensures.covers c.self.invariant.0,
  hold_with _ c.args.node (λ x. record x { attributes = without_value c.args.name.now x.attributes }) c.args.self.now _ (λ x. refl) (returns-clause-left c)
      (hold_same _ _ _ (sym c.self.view_is) c.self.invariant.1),
)

pub returns-clause-was : goal.returns-clause-was
returns-clause-was c = c.remove_attribute.ensures.was (link_in c.args.self.now c.args.node)
    (own_link _ _ _ _ (seen_fact _ _ _ c.self.view_is) c.requires.node c.deref_mut.ensures.value)

pub returns-clause-size : goal.returns-clause-size
returns-clause-size c = ap size (returns-clause-left c)
    ∙ size-with c.args.node (λ x. record x { attributes = without_value c.args.name.now x.attributes }) c.args.self.now

pub returns-clause-kinds : goal.returns-clause-kinds
returns-clause-kinds c = kinds-with c.args.node (λ x. record x { attributes = without_value c.args.name.now x.attributes }) _ _ (λ x. refl)
    (returns-clause-left c)

pub returns-clause-others : goal.returns-clause-others
returns-clause-others c = spots-with c.args.node (λ x. record x { attributes = without_value c.args.name.now x.attributes }) _ _ (returns-clause-left c)

pub returns-clause-tidy : goal.returns-clause-tidy
returns-clause-tidy c = (seen_fact _ _ _ c.self.view_is).tidy

pub returns-clause-still_tidy : goal.returns-clause-still_tidy
returns-clause-still_tidy c = (seen_fact _ _ _ refl).tidy
