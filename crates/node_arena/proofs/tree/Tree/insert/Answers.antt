use Rattle.std.proofs.Common.{refl, sym, ◌∙◌}
use Rattle.tree_laws.proofs.Allowed.{is_sibling}
use Rattle.tree_laws.proofs.Connected.{connected-moved}
use Rattle.tree_laws.proofs.Sizes.{node-still}
use Rattle.node_arena.specs.Seen.{seen_fact, seen_is}
use Rattle.node_arena.proofs.Calls.{written, in_slice, in_slice_or_none, inserted, inserted_covers, inserted_size, inserted_kinds, inserted_spots}
use Rattle.node_arena.proofs.Calls.{inserted_apart, inserted_moved, inserted_up}
use Rattle.node_arena.proofs.MarkLemmas.{hold_none, hold_moved, hold_same}
use Rattle.node_arena.proofs.tree.Tree.insert.Goals as goal

pub child_before-previous-requires-clause-child : goal.child_before-previous-requires-clause-child
child_before-previous-requires-clause-child c = is_sibling c.args.self.now c.args.parent c.args.node c.args.before c.requires.may

pub join-requires-clause-parent : goal.join-requires-clause-parent
join-requires-clause-parent c = in_slice _ _ _ (seen_fact _ _ _ c.self.view_is) c.deref_mut.ensures.value _ c.requires.parent

pub join-requires-clause-node : goal.join-requires-clause-node
join-requires-clause-node c = in_slice _ _ _ (seen_fact _ _ _ c.self.view_is) c.deref_mut.ensures.value _ c.requires.node

pub join-requires-clause-previous : goal.join-requires-clause-previous
join-requires-clause-previous c = in_slice_or_none _ _ _ (seen_fact _ _ _ c.self.view_is) c.deref_mut.ensures.value _ c.child_before-previous.ensures.node

pub join-requires-clause-next : goal.join-requires-clause-next
join-requires-clause-next c = in_slice_or_none _ _ _ (seen_fact _ _ _ c.self.view_is) c.deref_mut.ensures.value _ c.requires.before

pub invariant_of-self-inside : goal.invariant_of-self-inside
invariant_of-self-inside c = (
  (
    _,
    inserted _ c.args.self.now c.args.parent c.args.node c.args.before
        (seen_fact _ _ _ c.self.view_is) c.requires.parent c.requires.node c.requires.may c.requires.free c.child_before-previous.result _ _ _
        c.deref_mut.ensures.value (written _ _ _ _ c.deref_mut.ensures.value c.self.inside.nodes.ok.0 c.join.auto.nodes) c.join.ensures
        c.child_before-previous.ensures.child,
  ),
  tt,
)

pub invariant_of-self : goal.invariant_of-self
invariant_of-self c = (
  inserted_covers _ c.args.self.now c.args.parent c.args.node c.args.before
      (seen_fact _ _ _ c.self.view_is) c.requires.parent c.requires.node c.requires.may c.requires.free c.child_before-previous.result _ _ _
      c.deref_mut.ensures.value (written _ _ _ _ c.deref_mut.ensures.value c.self.inside.nodes.ok.0 c.join.auto.nodes) c.join.ensures _
      c.child_before-previous.ensures.node c.requires.before c.self.invariant.0,
  hold_none _ _ (rw c.replace-marks.ensures.after c.new-empty.ensures.items),
)

pub returns-clause-ok : goal.returns-clause-ok
returns-clause-ok c = seen_is _ _ _
    (inserted _ c.args.self.now c.args.parent c.args.node c.args.before
    (seen_fact _ _ _ c.self.view_is) c.requires.parent c.requires.node c.requires.may c.requires.free c.child_before-previous.result _ _ _
    c.deref_mut.ensures.value (written _ _ _ _ c.deref_mut.ensures.value c.self.inside.nodes.ok.0 c.join.auto.nodes) c.join.ensures
    c.child_before-previous.ensures.child)

pub returns-clause-size : goal.returns-clause-size
returns-clause-size c = inserted_size _ c.args.self.now c.args.parent c.args.node c.args.before
    (seen_fact _ _ _ c.self.view_is) c.requires.parent c.requires.node c.requires.may c.requires.free _ (returns-clause-ok c)

pub returns-clause-kinds : goal.returns-clause-kinds
returns-clause-kinds c = inserted_kinds _ c.args.self.now c.args.parent c.args.node c.args.before
    (seen_fact _ _ _ c.self.view_is) c.requires.parent c.requires.node c.requires.may c.requires.free _ (returns-clause-ok c)

pub returns-clause-others : goal.returns-clause-others
returns-clause-others c = inserted_spots _ c.args.self.now c.args.parent c.args.node c.args.before
    (seen_fact _ _ _ c.self.view_is) c.requires.parent c.requires.node c.requires.may c.requires.free _ (returns-clause-ok c)

pub returns-clause-apart : goal.returns-clause-apart
returns-clause-apart c = inserted_apart _ c.args.self.now c.args.parent c.args.node c.args.before
    (seen_fact _ _ _ c.self.view_is) c.requires.parent c.requires.node c.requires.may c.requires.free _ (returns-clause-ok c)

pub returns-clause-tidy : goal.returns-clause-tidy
returns-clause-tidy c = (seen_fact _ _ _ c.self.view_is).tidy

pub returns-clause-still_tidy : goal.returns-clause-still_tidy
returns-clause-still_tidy c = (seen_fact _ _ _ refl).tidy

pub noted-noted-requires : goal.noted-noted-requires
noted-noted-requires c =
    let e = seen_is _ _ _ (inserted _ c.args.self.now c.args.parent c.args.node c.args.before
    (seen_fact _ _ _ c.self.view_is) c.requires.parent c.requires.node c.requires.may c.requires.free c.child_before-previous.result _ _ _
    c.deref_mut.ensures.value (written _ _ _ _ c.deref_mut.ensures.value c.self.inside.nodes.ok.0 c.join.auto.nodes) c.join.ensures
    c.child_before-previous.ensures.child) in
    node-still _ _ (sym (inserted_size _ c.args.self.now c.args.parent c.args.node c.args.before
    (seen_fact _ _ _ c.self.view_is) c.requires.parent c.requires.node c.requires.may c.requires.free _ e)) _ c.requires.node

pub invariant_of-self-2 : goal.invariant_of-self-2
invariant_of-self-2 c =
    let fact = inserted _ c.args.self.now c.args.parent c.args.node c.args.before
    (seen_fact _ _ _ c.self.view_is) c.requires.parent c.requires.node c.requires.may c.requires.free c.child_before-previous.result _ _ _
    c.deref_mut.ensures.value (written _ _ _ _ c.deref_mut.ensures.value c.self.inside.nodes.ok.0 c.join.auto.nodes) c.join.ensures
    c.child_before-previous.ensures.child in
    let e = seen_is _ _ _ fact in
    let moved = inserted_moved _ c.args.self.now c.args.parent c.args.node c.args.before
    (seen_fact _ _ _ c.self.view_is) c.requires.parent c.requires.node c.requires.may c.requires.free _ e in
    let node = node-still _ _ (sym (inserted_size _ c.args.self.now c.args.parent c.args.node c.args.before
    (seen_fact _ _ _ c.self.view_is) c.requires.parent c.requires.node c.requires.may c.requires.free _ e)) _ c.requires.node in
    let up = inserted_up _ c.args.self.now c.args.parent c.args.node c.args.before
    (seen_fact _ _ _ c.self.view_is) c.requires.parent c.requires.node c.requires.may c.requires.free _ e in
    let here = connected-moved _ _ _ moved c.args.parent node up in (
      inserted_covers _ c.args.self.now c.args.parent c.args.node c.args.before
          (seen_fact _ _ _ c.self.view_is) c.requires.parent c.requires.node c.requires.may c.requires.free c.child_before-previous.result _ _ _
          c.deref_mut.ensures.value (written _ _ _ _ c.deref_mut.ensures.value c.self.inside.nodes.ok.0 c.join.auto.nodes) c.join.ensures _
          c.child_before-previous.ensures.node c.requires.before c.self.invariant.0,
      hold_same _ _ _ (seen_is _ _ _ fact ∙ sym e)
          (hold_moved _ _ _ moved node c.is_connected-was.result c.is_connected-is.result _ _ c.is_connected-was.ensures
          (c.is_connected-is.ensures ∙ sym here) c.noted-noted.ensures.same c.noted-noted.ensures.noted
          (rw c.replace-marks.ensures.value (hold_same _ _ _ (sym c.self.view_is) c.self.invariant.1))),
    )
