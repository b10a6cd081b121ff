use Rattle.std.proofs.Common.{◌≡◌, Bool, cond, None, Some, ap, sym, subst, ◌∙◌}
use Rattle.std.specs.Prelude.{filter}
use Rattle.std.specs.List.{last_or}
use Rattle.node_trees.specs.Nodes.{IsTidy}
use Rattle.form_controls.specs.Checkedness.{group_of, is_flagged}
use Rattle.form_owner.specs.Groups.{members_behind}
use Rattle.form_owner.proofs.GroupWalks.{last-step, last-end}
use Rattle.checkedness.proofs.checked.checked_of.Goals as goal
use Rattle.checkedness.proofs.checked.checked_of.Goals.{then-is_flagged, else-is_flagged}

pub loop-member-init : goal.loop-member-init
loop-member-init c = record {
  member = tt;
  last = λ f forest stands. ap (λ t. last_or None (filter (is_flagged c.args.controls.now t) (group_of f c.args.radio))) forest;
}

pub loop-member-preserved : goal.loop-member-preserved
loop-member-preserved c =
    let found : c.if-is_flagged.found ≡ cond (is_flagged c.args.controls.now c.args.tree.now c.in-Some.member) (Some c.in-Some.member) c.loop-member.found =
    elim c.if-is_flagged.branch [
      | then-is_flagged w ↦ w.found-is
          ∙ sym (ap (λ (b : Bool). cond b (Some c.in-Some.member) c.loop-member.found) (sym c.is_flagged.ensures ∙ w.if-is_flagged.true))
      | else-is_flagged w ↦ w.found-is
          ∙ sym (ap (λ (b : Bool). cond b (Some c.in-Some.member) c.loop-member.found) (sym c.is_flagged.ensures ∙ w.if-is_flagged.false))
    ] in
    record {
      member = c.in-Some.ensures.member;
      last = λ f forest stands.
          let next = c.in-Some.ensures.next f forest stands in
          c.loop-member.invariant.last f forest stands
          ∙ last-step f c.args.radio (subst IsTidy (sym forest) c.count-count.ensures.tidy)
          (is_flagged c.args.controls.now c.args.tree.now) c.loop-member.at c.in-Some.member next c.loop-member.found
          ∙ ap (λ o. last_or o (filter (is_flagged c.args.controls.now c.args.tree.now) (members_behind f c.args.radio (Some c.in-Some.member)))) (sym found);
    }

pub returns : goal.returns
returns c = λ f forest stands.
    let none = sym c.in_default.is ∙ c.next_in_group.ensures.next f forest stands in
    sym (c.loop-member.invariant.last f forest stands
    ∙ last-end f c.args.radio (is_flagged c.args.controls.now c.args.tree.now) c.loop-member.at none c.loop-member.found)
