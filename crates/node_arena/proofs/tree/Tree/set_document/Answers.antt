use Rattle.std.proofs.Common.{sym, ◌∙◌, ap, refl}
use Rattle.node_trees.specs.Nodes.{size}
use Rattle.tree_laws.proofs.Allowed.{may_insert-with_document}
use Rattle.tree_laws.proofs.Apart.{apart-with}
use Rattle.tree_laws.proofs.Changed.{size-with}
use Rattle.tree_laws.proofs.ChangedReads.{parent_at-with}
use Rattle.tree_laws.proofs.NodeKinds.{kinds-with}
use Rattle.tree_laws.proofs.OtherSpots.{spots-with}
use Rattle.tree_laws.proofs.Surplus.{keeps-document}
use Rattle.node_arena.specs.Seen.{seen_fact, seen_is}
use Rattle.node_arena.proofs.Calls.{written, written_covers, in_slice, altered}
use Rattle.node_arena.proofs.Covering.{covers-kept}
use Rattle.node_arena.proofs.MarkLemmas.{hold_same, hold_with}
use Rattle.node_arena.proofs.tree.Tree.set_document.Goals as goal

pub move_to-requires : goal.move_to-requires
move_to-requires c = in_slice _ _ _ (seen_fact _ _ _ c.self.view_is) c.deref_mut.ensures.value _ c.requires

pub invariant_of-self-inside : goal.invariant_of-self-inside
invariant_of-self-inside c = (
  (
    _,
    altered _ _ _ _ _ c.args.node _ (seen_fact _ _ _ c.self.view_is) c.requires
        (keeps-document _ _ _ (seen_fact _ _ _ c.self.view_is).tidy c.requires) c.deref_mut.ensures.value
        (written _ _ _ _ c.deref_mut.ensures.value c.self.inside.nodes.ok.0 c.move_to.auto.nodes) c.move_to.ensures,
  ),
  tt,
)

pub returns-clause-document : goal.returns-clause-document
returns-clause-document c = seen_is _ _ _
    (altered _ _ _ _ _ c.args.node _ (seen_fact _ _ _ c.self.view_is) c.requires
    (keeps-document _ _ _ (seen_fact _ _ _ c.self.view_is).tidy c.requires) c.deref_mut.ensures.value
    (written _ _ _ _ c.deref_mut.ensures.value c.self.inside.nodes.ok.0 c.move_to.auto.nodes) c.move_to.ensures)

pub invariant_of-self : goal.invariant_of-self
invariant_of-self c = (
  written_covers _ _ _ _ _ _ c.deref_mut.ensures.value (written _ _ _ _ c.deref_mut.ensures.value c.self.inside.nodes.ok.0 c.move_to.auto.nodes)
      (λ covers. rw c.move_to.ensures (covers-kept _ _ c.args.node (λ x. record x { document = c.args.document }) c.requires.low (λ x id. refl) covers))
      c.self.invariant.0,
  hold_with _ c.args.node (λ x. record x { document = c.args.document }) c.args.self.now _ (λ x. refl) (returns-clause-document c)
      (hold_same _ _ _ (sym c.self.view_is) c.self.invariant.1),
)

pub returns-clause-size : goal.returns-clause-size
returns-clause-size c = ap size (returns-clause-document c) ∙ size-with c.args.node (λ x. record x { document = c.args.document }) c.args.self.now

pub returns-clause-may : goal.returns-clause-may
returns-clause-may c = λ p n b. rw (returns-clause-document c) (may_insert-with_document c.args.node c.args.document c.args.self.now p n b)

pub returns-clause-parents : goal.returns-clause-parents
returns-clause-parents c = λ n. rw (returns-clause-document c) (parent_at-with c.args.node (λ x. record x { document = c.args.document }) c.args.self.now n)

pub returns-clause-kinds : goal.returns-clause-kinds
returns-clause-kinds c = kinds-with c.args.node (λ x. record x { document = c.args.document }) _ _ (λ x. refl) (returns-clause-document c)

pub returns-clause-others : goal.returns-clause-others
returns-clause-others c = spots-with c.args.node (λ x. record x { document = c.args.document }) _ _ (returns-clause-document c)

pub returns-clause-apart : goal.returns-clause-apart
returns-clause-apart c = apart-with c.args.node (λ x. record x { document = c.args.document }) _ _ (λ x. refl) (returns-clause-document c)

pub returns-clause-tidy : goal.returns-clause-tidy
returns-clause-tidy c = (seen_fact _ _ _ c.self.view_is).tidy
