use Rattle.std.proofs.Common.{refl, sym, ◌∙◌, ap}
use Rattle.node_trees.specs.Nodes.{size}
use Rattle.tree_laws.proofs.AllowedCut.{may_insert-cut, may_insert-cut-itself}
use Rattle.tree_laws.proofs.CutReads.{parent_at-cut-here}
use Rattle.tree_laws.proofs.NodeKinds.{kinds-cut}
use Rattle.tree_laws.proofs.Sizes.{size-cut, node-still}
use Rattle.node_arena.specs.Seen.{seen_fact, seen_is}
use Rattle.node_arena.proofs.Calls.{written, in_slice, in_slice_or_none, its_parent, removed, removed_covers, removed_moved, removed_size}
use Rattle.node_arena.proofs.MarkLemmas.{hold_none, hold_moved, hold_same}
use Rattle.node_arena.proofs.tree.Tree.remove.Goals as goal

pub part-requires-clause-parent : goal.part-requires-clause-parent
part-requires-clause-parent c =
    in_slice _ _ _ (seen_fact _ _ _ c.self.view_is) c.deref_mut.ensures.value _
    (its_parent _ c.args.self.now c.in-Some.parent c.args.node (seen_fact _ _ _ c.self.view_is) c.requires.node
    (sym c.node-kept.ensures.parent_is ∙ c.in-Some.is))

pub part-requires-clause-node : goal.part-requires-clause-node
part-requires-clause-node c = in_slice _ _ _ (seen_fact _ _ _ c.self.view_is) c.deref_mut.ensures.value _ c.requires.node

pub part-requires-clause-previous : goal.part-requires-clause-previous
part-requires-clause-previous c = in_slice_or_none _ _ _ (seen_fact _ _ _ c.self.view_is) c.deref_mut.ensures.value _ c.node-kept.ensures.previous

pub part-requires-clause-next : goal.part-requires-clause-next
part-requires-clause-next c = in_slice_or_none _ _ _ (seen_fact _ _ _ c.self.view_is) c.deref_mut.ensures.value _ c.node-kept.ensures.next

pub invariant_of-self-inside : goal.invariant_of-self-inside
invariant_of-self-inside c = (
  (
    _,
    removed _ c.args.self.now c.in-Some.parent c.args.node (seen_fact _ _ _ c.self.view_is) c.requires.node
        (sym c.node-kept.ensures.parent_is ∙ c.in-Some.is) _ _ _ _ _ c.deref_mut.ensures.value
        (written _ _ _ _ c.deref_mut.ensures.value c.self.inside.nodes.ok.0 c.part.auto.nodes) c.part.ensures c.node-kept.ensures.previous_is
        c.node-kept.ensures.next_is,
  ),
  tt,
)

pub invariant_of-self : goal.invariant_of-self
invariant_of-self c = (
  removed_covers _ c.args.self.now c.in-Some.parent c.args.node (seen_fact _ _ _ c.self.view_is) c.requires.node
      (sym c.node-kept.ensures.parent_is ∙ c.in-Some.is) _ _ _ _ _ c.deref_mut.ensures.value
      (written _ _ _ _ c.deref_mut.ensures.value c.self.inside.nodes.ok.0 c.part.auto.nodes) c.part.ensures _ c.node-kept.ensures.previous
      c.node-kept.ensures.next c.self.invariant.0,
  hold_none _ _ (rw c.replace-marks.ensures.after c.new-empty.ensures.items),
)

pub is_connected-is-requires : goal.is_connected-is-requires
is_connected-is-requires c = node-still _ _
    (sym (removed_size _ _ _ (seen_fact _ _ _ c.self.view_is).tidy c.requires.node
    (seen_is _ _ _ (removed _ c.args.self.now c.in-Some.parent c.args.node (seen_fact _ _ _ c.self.view_is) c.requires.node
    (sym c.node-kept.ensures.parent_is ∙ c.in-Some.is) _ _ _ _ _ c.deref_mut.ensures.value
    (written _ _ _ _ c.deref_mut.ensures.value c.self.inside.nodes.ok.0 c.part.auto.nodes) c.part.ensures c.node-kept.ensures.previous_is
    c.node-kept.ensures.next_is)))) _ c.requires.node

pub noted-noted-requires : goal.noted-noted-requires
noted-noted-requires c = node-still _ _
    (sym (removed_size _ _ _ (seen_fact _ _ _ c.self.view_is).tidy c.requires.node
    (seen_is _ _ _ (removed _ c.args.self.now c.in-Some.parent c.args.node (seen_fact _ _ _ c.self.view_is) c.requires.node
    (sym c.node-kept.ensures.parent_is ∙ c.in-Some.is) _ _ _ _ _ c.deref_mut.ensures.value
    (written _ _ _ _ c.deref_mut.ensures.value c.self.inside.nodes.ok.0 c.part.auto.nodes) c.part.ensures c.node-kept.ensures.previous_is
    c.node-kept.ensures.next_is)))) _ c.requires.node

pub invariant_of-self-in-Some : goal.invariant_of-self-in-Some
invariant_of-self-in-Some c = (
  removed_covers _ c.args.self.now c.in-Some.parent c.args.node (seen_fact _ _ _ c.self.view_is) c.requires.node
      (sym c.node-kept.ensures.parent_is ∙ c.in-Some.is) _ _ _ _ _ c.deref_mut.ensures.value
      (written _ _ _ _ c.deref_mut.ensures.value c.self.inside.nodes.ok.0 c.part.auto.nodes) c.part.ensures _ c.node-kept.ensures.previous
      c.node-kept.ensures.next c.self.invariant.0,
  hold_none _ _ (rw c.replace-marks.ensures.after c.new-empty.ensures.items),
)

pub invariant_of-self-in-Some-2 : goal.invariant_of-self-in-Some-2
invariant_of-self-in-Some-2 c =
    let fact = removed _ c.args.self.now c.in-Some.parent c.args.node (seen_fact _ _ _ c.self.view_is) c.requires.node
    (sym c.node-kept.ensures.parent_is ∙ c.in-Some.is) _ _ _ _ _ c.deref_mut.ensures.value
    (written _ _ _ _ c.deref_mut.ensures.value c.self.inside.nodes.ok.0 c.part.auto.nodes) c.part.ensures c.node-kept.ensures.previous_is
    c.node-kept.ensures.next_is in
    let e = seen_is _ _ _ fact in
    let tidy = (seen_fact _ _ _ c.self.view_is).tidy in
    let moved = removed_moved _ _ _ tidy c.requires.node e (seen_fact _ _ _ refl).tidy in
    let node = node-still _ _ (sym (removed_size _ _ _ tidy c.requires.node e)) _ c.requires.node in (
      removed_covers _ c.args.self.now c.in-Some.parent c.args.node (seen_fact _ _ _ c.self.view_is) c.requires.node
          (sym c.node-kept.ensures.parent_is ∙ c.in-Some.is) _ _ _ _ _ c.deref_mut.ensures.value
          (written _ _ _ _ c.deref_mut.ensures.value c.self.inside.nodes.ok.0 c.part.auto.nodes) c.part.ensures _ c.node-kept.ensures.previous
          c.node-kept.ensures.next c.self.invariant.0,
      hold_same _ _ _ (seen_is _ _ _ fact ∙ sym e)
          (hold_moved _ _ _ moved node c.is_connected-was.result c.is_connected-is.result _ _ c.is_connected-was.ensures c.is_connected-is.ensures
          c.noted-noted.ensures.same c.noted-noted.ensures.noted
          (rw c.replace-marks.ensures.value (hold_same _ _ _ (sym c.self.view_is) c.self.invariant.1))),
    )

pub returns-in-Some-clause-cut : goal.returns-in-Some-clause-cut
returns-in-Some-clause-cut c =
    seen_is _ _ _ (removed _ c.args.self.now c.in-Some.parent c.args.node (seen_fact _ _ _ c.self.view_is) c.requires.node
    (sym c.node-kept.ensures.parent_is ∙ c.in-Some.is) _ _ _ _ _ c.deref_mut.ensures.value
    (written _ _ _ _ c.deref_mut.ensures.value c.self.inside.nodes.ok.0 c.part.auto.nodes) c.part.ensures c.node-kept.ensures.previous_is
    c.node-kept.ensures.next_is)

pub returns-in-Some-clause-size : goal.returns-in-Some-clause-size
returns-in-Some-clause-size c = ap size (returns-in-Some-clause-cut c) ∙ size-cut c.args.self.now c.args.node (seen_fact _ _ _ c.self.view_is).tidy

pub returns-in-Some-clause-may : goal.returns-in-Some-clause-may
returns-in-Some-clause-may c =
    λ p b may ne. rw (returns-in-Some-clause-cut c)
    (may_insert-cut c.args.self.now p c.args.node b (seen_fact _ _ _ c.self.view_is).tidy c.requires.node may ne)

pub returns-in-Some-clause-may_in_place : goal.returns-in-Some-clause-may_in_place
returns-in-Some-clause-may_in_place c =
    λ p at may. rw (returns-in-Some-clause-cut c)
    (may_insert-cut-itself c.args.self.now p c.args.node (seen_fact _ _ _ c.self.view_is).tidy at c.requires.node may)

pub returns-in-Some-clause-free : goal.returns-in-Some-clause-free
returns-in-Some-clause-free c =
    rw (returns-in-Some-clause-cut c) (parent_at-cut-here c.args.self.now c.args.node (seen_fact _ _ _ c.self.view_is).tidy c.requires.node)

pub returns-in-Some-clause-kinds : goal.returns-in-Some-clause-kinds
returns-in-Some-clause-kinds c = kinds-cut _ _ _ (seen_fact _ _ _ c.self.view_is).tidy c.requires.node (returns-in-Some-clause-cut c)

pub returns-in-Some-clause-tidy : goal.returns-in-Some-clause-tidy
returns-in-Some-clause-tidy c = (seen_fact _ _ _ c.self.view_is).tidy

pub returns-in-Some-clause-still_tidy : goal.returns-in-Some-clause-still_tidy
returns-in-Some-clause-still_tidy c = (seen_fact _ _ _ refl).tidy
