use Rattle.std.proofs.Common.{◌∙◌, ap, refl, sym}
use Rattle.std.proofs.lemmas.Result.{IfOk-weaker}
use Rattle.ordered_tables.specs.Held.{is_known}
use Rattle.form_owner.specs.Candidates.{is_of_change, is_of_move}
use Rattle.form_owner.specs.OwnerRows.{OwnerRows}
use Rattle.form_owner.proofs.Covering.{covers-inserted, covers-removed, of-table}
use Rattle.form_owner.proofs.CoveringChanges.{covers-changed, covers-marked}
use Rattle.form_owner.proofs.Looking.{looks-lent, looks-still}
use Rattle.form_owner.proofs.Touching.{no-root, parent-still}
use Rattle.form_owner.proofs.table.OwnerTable.candidates.Goals as goal

pub of_move-requires-in-Removed-clause-parent : goal.of_move-requires-in-Removed-clause-parent
of_move-requires-in-Removed-clause-parent c =
    parent-still c.in-Removed.node c.in-Removed.parent c.requires.stood.before.forest c.args.tree.now (rw c.in-Removed.is at c.requires.stood.touched)

pub of_move-requires-clause-looks : goal.of_move-requires-clause-looks
of_move-requires-clause-looks c =
    looks-lent c.args.tree.now c.args.self.now c.deref.result.now c.self.inside.named c.self.inside.looks
    (c.deref.ensures.value ∙ ap (λ (t : OwnerRows). t.rows) c.self.view_is) (ap (λ (t : OwnerRows). t.named) c.self.view_is)
    (ap (λ (t : OwnerRows). t.looks) c.self.view_is)
    (looks-still c.args.touch c.requires.stood.before c.args.tree.now c.requires.stood.touched (rw c.in-Inserted.is (λ m. refl)) c.args.self.now.rows
    (is_known c.args.self.now.named) c.args.self.now.looks c.requires.stood.stands.looks)

pub of_move-requires-in-Removed-clause-looks : goal.of_move-requires-in-Removed-clause-looks
of_move-requires-in-Removed-clause-looks c =
    looks-lent c.args.tree.now c.args.self.now c.deref-in-Removed.result.now c.self.inside.named c.self.inside.looks
    (c.deref-in-Removed.ensures.value ∙ ap (λ (t : OwnerRows). t.rows) c.self.view_is) (ap (λ (t : OwnerRows). t.named) c.self.view_is)
    (ap (λ (t : OwnerRows). t.looks) c.self.view_is)
    (looks-still c.args.touch c.requires.stood.before c.args.tree.now c.requires.stood.touched (rw c.in-Removed.is (λ m. refl)) c.args.self.now.rows
    (is_known c.args.self.now.named) c.args.self.now.looks c.requires.stood.stands.looks)

pub returns-in-None-clause-covers : goal.returns-in-None-clause-covers
returns-in-None-clause-covers c =
    λ before stands touched. absurd (no-root c.in-Inserted.node before.forest c.args.tree.now (rw c.in-Inserted.is at touched) (sym c.in-None.ensures.parent))

pub returns-in-Some-clause-covers : goal.returns-in-Some-clause-covers
returns-in-Some-clause-covers c =
    rw c.in-Inserted.is (λ before stands touched. IfOk-weaker c.of_move.result _ _
    (λ set all. covers-inserted c.args.self.now before stands c.args.tree.now c.in-Inserted.node touched c.in-Some.parent (sym c.in-Some.ensures.parent) set
    (of-table (λ rows named. is_of_move c.args.tree.now named c.in-Inserted.node c.in-Some.parent) c.args.self.now c.deref.result.now c.self.inside.named
    (c.deref.ensures.value ∙ ap (λ (t : OwnerRows). t.rows) c.self.view_is) (ap (λ (t : OwnerRows). t.named) c.self.view_is) all))
    c.of_move.ensures)

pub returns-in-Removed-clause-covers : goal.returns-in-Removed-clause-covers
returns-in-Removed-clause-covers c =
    rw c.in-Removed.is (λ before stands touched. IfOk-weaker c.of_move-in-Removed.result _ _
    (λ set all. covers-removed c.args.self.now before stands c.args.tree.now c.in-Removed.node c.in-Removed.parent touched set
    (of-table (λ rows named. is_of_move c.args.tree.now named c.in-Removed.node c.in-Removed.parent) c.args.self.now c.deref-in-Removed.result.now
    c.self.inside.named (c.deref-in-Removed.ensures.value ∙ ap (λ (t : OwnerRows). t.rows) c.self.view_is)
    (ap (λ (t : OwnerRows). t.named) c.self.view_is) all))
    c.of_move-in-Removed.ensures)

pub returns-in-Attr-clause-covers : goal.returns-in-Attr-clause-covers
returns-in-Attr-clause-covers c =
    rw c.in-Attr.is (λ before stands touched. IfOk-weaker c.of_change.result _ _
    (λ set all. covers-changed c.args.self.now before stands c.args.tree.now c.count-count.ensures.tidy c.in-Attr.node touched set
    (of-table (λ rows named. is_of_change c.args.tree.now rows named c.in-Attr.node) c.args.self.now c.deref-in-Attr.result.now c.self.inside.named
    (c.deref-in-Attr.ensures.value ∙ ap (λ (t : OwnerRows). t.rows) c.self.view_is) (ap (λ (t : OwnerRows). t.named) c.self.view_is) all))
    c.of_change.ensures)

pub returns-in-Associated-clause-covers : goal.returns-in-Associated-clause-covers
returns-in-Associated-clause-covers c =
    rw c.in-Associated.is (λ before stands touched. IfOk-weaker c.of_mark.result _ _
    (λ set all. covers-marked before c.args.tree.now c.in-Associated.node c.in-Associated.field-1 touched set all)
    c.of_mark.ensures)
