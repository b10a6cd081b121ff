use Rattle.std.proofs.Common.{◌≡◌, ap, arith, length, sym, subst, ◌∙◌}
use Rattle.std.specs.Vec.{with_items}
use Rattle.std.proofs.lemmas.List.{with_items_is}
use Rattle.node_trees.specs.Nodes.{size}
use Rattle.ordered_tables.specs.Held.{is_held, is_known}
use Rattle.owner_rows.specs.OwnerRow.{row_in}
use Rattle.form_owner.specs.Candidates.{Covers}
use Rattle.form_owner.specs.OwnerRows.{OwnerRows}
use Rattle.form_owner.specs.Looks.{AreKept, AreNotedBy, KnowsBy, known_by}
use Rattle.form_owner.specs.Told.{AreOfNodes}
use Rattle.form_owner.specs.Touches.{after_touch}
use Rattle.form_owner.specs.Writing.{AreNoted, AreSeenBy}
use Rattle.form_owner.proofs.Looking.{on-node}
use Rattle.form_owner.proofs.Sights.{seen-placed}
use Rattle.form_owner.proofs.Told.{changes-of_nodes}
use Rattle.form_owner.proofs.Touched.{is-placed}
use Rattle.form_owner.proofs.Settled.{covers-now, lists-now, noted-now, settled, settled-changes}
use Rattle.form_owner.proofs.table.OwnerTable.settle.Goals as goal

pub note-requires : goal.note-requires
note-requires c = is-placed c.args.touch c.requires.stood.before.forest c.args.tree.now _ c.requires.stood.touched
    (ap length c.deref_mut.ensures.value ∙ c.in_ok-fill.ensures.long ∙ c.count.ensures.count)

pub renew-requires-clause-rows : goal.renew-requires-clause-rows
renew-requires-clause-rows c =
    let given : c.deref_mut-2.result.now ≡ c.note.new.rows =
    c.deref_mut-2.ensures.value ∙ with_items_is c.fill.new.rows c.note.new.rows (omega (arith, c.note.auto.rows, c.deref_mut.ensures.len)) in
    omega (arith, ap length given, c.note.auto.rows, ap length c.deref_mut.ensures.value, c.in_ok-fill.ensures.long, c.count.ensures.count)

pub renew-requires-clause-covers : goal.renew-requires-clause-covers
renew-requires-clause-covers c =
    let given : c.deref_mut-2.result.now ≡ c.note.new.rows =
    c.deref_mut-2.ensures.value ∙ with_items_is c.fill.new.rows c.note.new.rows (omega (arith, c.note.auto.rows, c.deref_mut.ensures.len)) in
    covers-now c.args.touch c.requires.stood.before c.args.tree.now c.count.ensures.tidy c.args.self.now c.fill.new.rows.items c.deref_mut.result.now
    c.note.new.rows c.deref_mut-2.result.now c.requires.stood.stands c.requires.stood.touched
    (λ i. c.in_ok-fill.ensures.same i ∙ ap (λ (t : OwnerRows). row_in t.rows i) c.self.view_is) c.deref_mut.ensures.value given c.note.ensures
    c.in_ok-candidates-2.candidates
    (subst (λ ns. Covers ns c.requires.stood.before (after_touch c.args.touch c.requires.stood.before c.args.tree.now)) (sym c.in_ok-candidates-2.ensures.list)
    (c.in_ok-candidates.ensures.covers c.requires.stood.before c.requires.stood.stands c.requires.stood.touched))

pub renew-requires-clause-lists : goal.renew-requires-clause-lists
renew-requires-clause-lists c =
    let given : c.deref_mut-2.result.now ≡ c.note.new.rows =
    c.deref_mut-2.ensures.value ∙ with_items_is c.fill.new.rows c.note.new.rows (omega (arith, c.note.auto.rows, c.deref_mut.ensures.len)) in
    lists-now c.args.touch c.requires.stood.before c.args.tree.now c.count.ensures.tidy c.args.self.now c.fill.new.rows.items c.deref_mut.result.now
    c.note.new.rows c.deref_mut-2.result.now c.requires.stood.stands c.requires.stood.touched
    (λ i. c.in_ok-fill.ensures.same i ∙ ap (λ (t : OwnerRows). row_in t.rows i) c.self.view_is) c.deref_mut.ensures.value given c.note.ensures

pub mind_touched-requires-clause-touching : goal.mind_touched-requires-clause-touching
mind_touched-requires-clause-touching c = on-node c.args.touch c.requires.stood.before.forest c.args.tree.now c.requires.stood.touched

pub mind_touched-requires-clause-noted : goal.mind_touched-requires-clause-noted
mind_touched-requires-clause-noted c =
    let given : c.deref_mut-2.result.now ≡ c.note.new.rows =
    c.deref_mut-2.ensures.value ∙ with_items_is c.fill.new.rows c.note.new.rows (omega (arith, c.note.auto.rows, c.deref_mut.ensures.len)) in
    let read : c.deref.result.now ≡ c.renew.new.rows =
    c.deref.ensures.value ∙ with_items_is (with_items c.fill.new.rows c.note.new.rows) c.renew.new.rows
    (omega (arith, c.renew.auto.rows, c.deref_mut-2.ensures.len)) in
    subst (λ rows. AreNoted rows (is_held c.self.inside.named)) (sym read)
    (subst (λ index. AreNoted c.renew.new.rows (is_held index)) (sym (ap (λ (t : OwnerRows). t.named) c.self.view_is))
    (noted-now c.args.touch c.requires.stood.before c.args.tree.now c.count.ensures.tidy c.args.self.now c.fill.new.rows.items c.deref_mut.result.now
    c.note.new.rows c.deref_mut-2.result.now c.requires.stood.stands c.requires.stood.touched
    (λ i. c.in_ok-fill.ensures.same i ∙ ap (λ (t : OwnerRows). row_in t.rows i) c.self.view_is) c.deref_mut.ensures.value given c.note.ensures c.renew.new.rows
    c.in_ok-changes.ensures.rows))

pub see_touched-requires-clause-placed : goal.see_touched-requires-clause-placed
see_touched-requires-clause-placed c =
    let given : c.deref_mut-2.result.now ≡ c.note.new.rows =
    c.deref_mut-2.ensures.value ∙ with_items_is c.fill.new.rows c.note.new.rows (omega (arith, c.note.auto.rows, c.deref_mut.ensures.len)) in
    let read : c.deref_mut-3.result.now ≡ c.renew.new.rows =
    c.deref_mut-3.ensures.value ∙ with_items_is (with_items c.fill.new.rows c.note.new.rows) c.renew.new.rows
    (omega (arith, c.renew.auto.rows, c.deref_mut-2.ensures.len)) in
    seen-placed c.args.touch c.requires.stood.before.forest c.args.tree.now _ c.requires.stood.touched
    (omega (
      arith,
      ap length read,
      c.renew.auto.rows,
      ap length given,
      c.note.auto.rows,
      ap length c.deref_mut.ensures.value,
      c.in_ok-fill.ensures.long,
      c.count.ensures.count,
    ))

pub see_touched-requires-clause-noted : goal.see_touched-requires-clause-noted
see_touched-requires-clause-noted c =
    let given : c.deref_mut-2.result.now ≡ c.note.new.rows =
    c.deref_mut-2.ensures.value ∙ with_items_is c.fill.new.rows c.note.new.rows (omega (arith, c.note.auto.rows, c.deref_mut.ensures.len)) in
    let read : c.deref_mut-3.result.now ≡ c.renew.new.rows =
    c.deref_mut-3.ensures.value ∙ with_items_is (with_items c.fill.new.rows c.note.new.rows) c.renew.new.rows
    (omega (arith, c.renew.auto.rows, c.deref_mut-2.ensures.len)) in
    subst (λ rows. AreNoted rows (is_held c.self.inside.named)) (sym read)
    (subst (λ index. AreNoted c.renew.new.rows (is_held index)) (sym (ap (λ (t : OwnerRows). t.named) c.self.view_is))
    (noted-now c.args.touch c.requires.stood.before c.args.tree.now c.count.ensures.tidy c.args.self.now c.fill.new.rows.items c.deref_mut.result.now
    c.note.new.rows c.deref_mut-2.result.now c.requires.stood.stands c.requires.stood.touched
    (λ i. c.in_ok-fill.ensures.same i ∙ ap (λ (t : OwnerRows). row_in t.rows i) c.self.view_is) c.deref_mut.ensures.value given c.note.ensures c.renew.new.rows
    c.in_ok-changes.ensures.rows))

pub note_looks-requires : goal.note_looks-requires
note_looks-requires c = on-node c.args.touch c.requires.stood.before.forest c.args.tree.now c.requires.stood.touched

pub returns-clause-stands : goal.returns-clause-stands
returns-clause-stands c = λ before stood touched.
    let given : c.deref_mut-2.result.now ≡ c.note.new.rows =
    c.deref_mut-2.ensures.value ∙ with_items_is c.fill.new.rows c.note.new.rows (omega (arith, c.note.auto.rows, c.deref_mut.ensures.len)) in
    let read : c.deref_mut-3.result.now ≡ c.renew.new.rows =
    c.deref_mut-3.ensures.value ∙ with_items_is (with_items c.fill.new.rows c.note.new.rows) c.renew.new.rows
    (omega (arith, c.renew.auto.rows, c.deref_mut-2.ensures.len)) in
    let last : (with_items (with_items (with_items c.fill.new.rows c.note.new.rows) c.renew.new.rows) c.see_touched.new.rows).items ≡ c.see_touched.new.rows =
    with_items_is (with_items (with_items c.fill.new.rows c.note.new.rows) c.renew.new.rows) c.see_touched.new.rows
    (omega (arith, c.see_touched.auto.rows, c.deref_mut-3.ensures.len)) in
    let long : length c.renew.new.rows ≡ size c.args.tree.now =
    omega (
      arith,
      c.renew.auto.rows,
      ap length given,
      c.note.auto.rows,
      ap length c.deref_mut.ensures.value,
      c.in_ok-fill.ensures.long,
      c.count.ensures.count,
    ) in
    settled c.args.touch before c.args.tree.now c.count.ensures.tidy c.args.self.now c.fill.new.rows.items c.deref_mut.result.now c.note.new.rows
    c.deref_mut-2.result.now stood touched
    (λ i. c.in_ok-fill.ensures.same i ∙ ap (λ (t : OwnerRows). row_in t.rows i) c.self.view_is) c.deref_mut.ensures.value given c.note.ensures c.renew.new.rows
    long c.in_ok-changes.ensures.rows _ c.mind_touched.new.looks
    (omega (arith, ap length last, c.see_touched.auto.rows, ap length read, long))
    (subst (λ rows. AreSeenBy c.args.touch c.args.tree.now c.renew.new.rows rows (is_held c.args.self.now.named) (is_held c.see_touched.new.named)) (sym last)
    (subst (λ index. AreSeenBy c.args.touch c.args.tree.now c.renew.new.rows c.see_touched.new.rows (is_held index) (is_held c.see_touched.new.named))
    (ap (λ (t : OwnerRows). t.named) c.self.view_is)
    (subst (λ rows. AreSeenBy c.args.touch c.args.tree.now rows c.see_touched.new.rows (is_held c.self.inside.named) (is_held c.see_touched.new.named)) read
    c.in_ok-see_touched.ensures.seen)))
    (subst (λ index. KnowsBy c.args.touch c.args.tree.now (is_known index) (is_known c.see_touched.new.named))
    (ap (λ (t : OwnerRows). t.named) c.self.view_is) c.in_ok-see_touched.ensures.known)
    (subst (λ index. AreKept c.args.tree.now (is_known index)
    (known_by c.args.touch c.args.tree.now (is_known index)) c.args.self.now.looks c.mind_touched.new.looks)
    (ap (λ (t : OwnerRows). t.named) c.self.view_is)
    (subst (λ looks. AreKept c.args.tree.now (is_known c.self.inside.named)
    (known_by c.args.touch c.args.tree.now (is_known c.self.inside.named)) looks c.mind_touched.new.looks)
    (ap (λ (t : OwnerRows). t.looks) c.self.view_is) c.mind_touched.ensures))
    (subst (λ rows. AreNotedBy c.args.touch c.args.tree.now rows (is_known c.see_touched.new.named) c.mind_touched.new.looks c.note_looks.new.looks)
    c.deref-2.ensures.value c.in_ok-note_looks.ensures)

pub returns-clause-changes : goal.returns-clause-changes
returns-clause-changes c = λ before stood touched.
    let given : c.deref_mut-2.result.now ≡ c.note.new.rows =
    c.deref_mut-2.ensures.value ∙ with_items_is c.fill.new.rows c.note.new.rows (omega (arith, c.note.auto.rows, c.deref_mut.ensures.len)) in
    c.in_ok-changes.ensures.changes
    ∙ settled-changes c.args.touch before c.args.tree.now c.count.ensures.tidy c.args.self.now c.fill.new.rows.items c.deref_mut.result.now c.note.new.rows
    c.deref_mut-2.result.now stood touched
    (λ i. c.in_ok-fill.ensures.same i ∙ ap (λ (t : OwnerRows). row_in t.rows i) c.self.view_is) c.deref_mut.ensures.value given c.note.ensures

pub returns-clause-nodes : goal.returns-clause-nodes
returns-clause-nodes c = subst (AreOfNodes c.args.tree.now)
    (sym (returns-clause-changes c c.requires.stood.before c.requires.stood.stands c.requires.stood.touched)) (changes-of_nodes _ _)
