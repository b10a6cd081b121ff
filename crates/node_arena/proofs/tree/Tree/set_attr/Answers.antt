use Rattle.std.proofs.Common.{sym, ◌≡◌, ◌∙◌, ap, refl}
use Rattle.std.proofs.lemmas.Result.{on_ok_weaker, on_err_weaker, IfOk-weaker}
use Rattle.node_trees.specs.Facts.{value_in, with_value}
use Rattle.node_trees.specs.Nodes.{size}
use Rattle.node_trees.specs.Spots.{attribute_at}
use Rattle.tree_laws.proofs.Alone.{alone-same, alone-with}
use Rattle.tree_laws.proofs.Apart.{apart-same, apart-with}
use Rattle.tree_laws.proofs.Changed.{size-with}
use Rattle.tree_laws.proofs.NodeKinds.{by_result, kinds-same, kinds-with}
use Rattle.tree_laws.proofs.OtherSpots.{spots-same, spots-with}
use Rattle.tree_laws.proofs.Surplus.{keeps-attributes}
use Rattle.node_arena.specs.Links.{link_in}
use Rattle.node_arena.specs.Seen.{seen_fact, seen_is}
use Rattle.node_arena.proofs.Calls.{written, written_covers, in_slice, altered, unaltered, altered_or_not, own_link}
use Rattle.node_arena.proofs.MarkLemmas.{hold_same, hold_with}
use Rattle.node_arena.proofs.tree.Tree.set_attr.Goals as goal

pub set_attribute-requires : goal.set_attribute-requires
set_attribute-requires c = in_slice _ _ _ (seen_fact _ _ _ c.self.view_is) c.deref_mut.ensures.value _ c.requires.node

pub invariant_of-self-inside : goal.invariant_of-self-inside
invariant_of-self-inside c = (
  altered_or_not _ _ _ _ _ c.args.node _ (seen_fact _ _ _ c.self.view_is) c.requires.node
      (keeps-attributes _ _ (with_value c.args.name c.args.value) (seen_fact _ _ _ c.self.view_is).tidy c.requires.node c.requires.element)
      c.deref_mut.ensures.value (written _ _ _ _ c.deref_mut.ensures.value c.self.inside.nodes.ok.0 c.set_attribute.auto.nodes) _ c.set_attribute.ensures.ok
      c.set_attribute.ensures.err,
  tt,
)

pub returns-clause-set : goal.returns-clause-set
returns-clause-set c = on_ok_weaker c.set_attribute.result
    (λ w. seen_is _ _ _ (altered _ _ _ _ _ c.args.node _ (seen_fact _ _ _ c.self.view_is) c.requires.node
    (keeps-attributes _ _ (with_value c.args.name c.args.value) (seen_fact _ _ _ c.self.view_is).tidy c.requires.node c.requires.element)
    c.deref_mut.ensures.value (written _ _ _ _ c.deref_mut.ensures.value c.self.inside.nodes.ok.0 c.set_attribute.auto.nodes) w)) c.set_attribute.ensures.ok

pub returns-clause-was : goal.returns-clause-was
returns-clause-was c =
    IfOk-weaker c.set_attribute.result (λ old. old ≡ value_in (link_in c.args.self.now c.args.node).facts.attributes c.args.name)
    (λ old. old ≡ attribute_at c.args.self.now c.args.node c.args.name) (λ old e. e)
    (c.set_attribute.ensures.was (link_in c.args.self.now c.args.node)
    (own_link _ _ _ _ (seen_fact _ _ _ c.self.view_is) c.requires.node c.deref_mut.ensures.value))

pub returns-clause-err : goal.returns-clause-err
returns-clause-err c = on_err_weaker c.set_attribute.result
    (λ w. seen_is _ _ _ (unaltered _ _ _ _ _ c.args.node _ (seen_fact _ _ _ c.self.view_is) c.requires.node
    (keeps-attributes _ _ (with_value c.args.name c.args.value) (seen_fact _ _ _ c.self.view_is).tidy c.requires.node c.requires.element)
    c.deref_mut.ensures.value (written _ _ _ _ c.deref_mut.ensures.value c.self.inside.nodes.ok.0 c.set_attribute.auto.nodes) w)) c.set_attribute.ensures.err

pub invariant_of-self : goal.invariant_of-self
invariant_of-self c = (
  written_covers _ _ _ _ _ _ c.deref_mut.ensures.value
      (written _ _ _ _ c.deref_mut.ensures.value c.self.inside.nodes.ok.0 c.set_attribute.auto.nodes) c.set_attribute.ensures.covers c.self.invariant.0,
  by_result c.set_attribute.result
      (λ e. hold_with _ c.args.node (λ x. record x { attributes = with_value c.args.name c.args.value x.attributes }) c.args.self.now _ (λ x. refl) e
      (hold_same _ _ _ (sym c.self.view_is) c.self.invariant.1))
      (λ e. hold_same _ c.args.self.now _ e (hold_same _ _ _ (sym c.self.view_is) c.self.invariant.1)) (returns-clause-set c) (returns-clause-err c),
)

pub returns-clause-size : goal.returns-clause-size
returns-clause-size c = by_result c.set_attribute.result
    (λ e. ap size e ∙ size-with c.args.node (λ x. record x { attributes = with_value c.args.name c.args.value x.attributes }) c.args.self.now) (λ e. ap size e)
    (returns-clause-set c) (returns-clause-err c)

pub returns-clause-kinds : goal.returns-clause-kinds
returns-clause-kinds c = by_result c.set_attribute.result
    (kinds-with c.args.node (λ x. record x { attributes = with_value c.args.name c.args.value x.attributes }) _ _ (λ x. refl)) (kinds-same _ _)
    (returns-clause-set c) (returns-clause-err c)

pub returns-clause-others : goal.returns-clause-others
returns-clause-others c = by_result c.set_attribute.result
    (spots-with c.args.node (λ x. record x { attributes = with_value c.args.name c.args.value x.attributes }) _ _) (λ e m _ _. spots-same _ _ m e)
    (returns-clause-set c) (returns-clause-err c)

pub returns-clause-alone : goal.returns-clause-alone
returns-clause-alone c = by_result c.set_attribute.result
    (alone-with c.args.node (λ x. record x { attributes = with_value c.args.name c.args.value x.attributes }) _ _) (alone-same _ _) (returns-clause-set c)
    (returns-clause-err c)

pub returns-clause-apart : goal.returns-clause-apart
returns-clause-apart c = by_result c.set_attribute.result
    (apart-with c.args.node (λ x. record x { attributes = with_value c.args.name c.args.value x.attributes }) _ _ (λ x. refl)) (apart-same _ _)
    (returns-clause-set c) (returns-clause-err c)

pub returns-clause-tidy : goal.returns-clause-tidy
returns-clause-tidy c = (seen_fact _ _ _ c.self.view_is).tidy

pub returns-clause-still_tidy : goal.returns-clause-still_tidy
returns-clause-still_tidy c = (seen_fact _ _ _ refl).tidy
