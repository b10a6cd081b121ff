use Rattle.std.proofs.Common.{◌∙◌, ap}
use Rattle.form_controls.specs.Checkedness.{next_after}
use Rattle.form_owner.specs.OwnerRows.{OwnerRows}
use Rattle.form_owner.proofs.Groups.{group-now, member-in, member-out, next-node, next-kind}
use Rattle.form_owner.proofs.GroupWalks.{left-less}
use Rattle.form_owner.proofs.table.OwnerTable.next_in_group.Goals as goal

pub next_member-requires-clause-member : goal.next_member-requires-clause-member
next_member-requires-clause-member c =
    member-in c.args.self.now _ (c.deref.ensures.value ∙ ap (λ (t : OwnerRows). t.rows) c.self.view_is) c.args.tree.now c.args.radio c.count-count.ensures.tidy
    c.requires.node c.args.behind c.requires.member

pub returns-clause-next : goal.returns-clause-next
returns-clause-next c = λ f e stands.
    c.next_member.ensures ∙ ap (λ ms. next_after ms c.args.behind)
    (group-now c.args.self.now _ (c.deref.ensures.value ∙ ap (λ (t : OwnerRows). t.rows) c.self.view_is) c.args.tree.now c.args.radio
    c.count-count.ensures.tidy c.requires.node f e stands)

pub returns-clause-member : goal.returns-clause-member
returns-clause-member c = member-out c.args.self.now _ (c.deref.ensures.value ∙ ap (λ (t : OwnerRows). t.rows) c.self.view_is) c.args.tree.now c.args.radio
    c.count-count.ensures.tidy c.requires.node c.args.behind _ c.next_member.ensures c.requires.stands

pub returns-clause-node : goal.returns-clause-node
returns-clause-node c = next-node c.args.self.now _ (c.deref.ensures.value ∙ ap (λ (t : OwnerRows). t.rows) c.self.view_is) c.args.tree.now c.args.radio
    c.count-count.ensures.tidy c.requires.node c.args.behind _ c.next_member.ensures c.requires.radio

pub returns-clause-radio : goal.returns-clause-radio
returns-clause-radio c = next-kind c.args.self.now _ (c.deref.ensures.value ∙ ap (λ (t : OwnerRows). t.rows) c.self.view_is) c.args.tree.now c.args.radio
    c.count-count.ensures.tidy c.requires.node c.args.behind _ c.next_member.ensures c.requires.radio

pub returns-clause-fewer : goal.returns-clause-fewer
returns-clause-fewer c = left-less c.args.self.now _ c.args.tree.now c.args.radio c.args.behind _
    (c.deref.ensures.value ∙ ap (λ (t : OwnerRows). t.rows) c.self.view_is) c.count-count.ensures.tidy c.next_member.ensures
