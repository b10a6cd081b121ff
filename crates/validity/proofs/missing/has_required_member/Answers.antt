use Rattle.std.proofs.Common.{◌≡◌, Some, ap, sym, subst, ◌∙◌}
use Rattle.std.specs.Prelude.{◌||◌}
use Rattle.std.specs.List.{list_any}
use Rattle.node_trees.specs.Nodes.{IsTidy}
use Rattle.form_controls.specs.Validity.{is_required}
use Rattle.checkedness.specs.Groups.{members_behind}
use Rattle.checkedness.proofs.GroupWalks.{any-step, any-end}
use Rattle.validity.proofs.missing.has_required_member.Goals as goal

pub loop-member-preserved : goal.loop-member-preserved
loop-member-preserved c = record {
  member = c.in-Some.ensures.member;
  left = λ f forest stands.
      c.loop-member.invariant.left f forest stands
      ∙ any-step f c.args.radio (subst IsTidy (sym forest) c.count-count.ensures.tidy) (is_required c.args.tree.now) c.loop-member.at c.in-Some.member
      (c.in-Some.ensures.next f forest stands)
      ∙ ap (λ b. b || list_any (is_required c.args.tree.now) (members_behind f c.args.radio (Some c.in-Some.member)))
      (sym c.is_required.ensures ∙ c.if-is_required.false);
}

pub returns-then-is_required : goal.returns-then-is_required
returns-then-is_required c = λ f forest stands.
    sym (c.loop-member.invariant.left f forest stands
    ∙ any-step f c.args.radio (subst IsTidy (sym forest) c.count-count.ensures.tidy) (is_required c.args.tree.now) c.loop-member.at c.in-Some.member
    (c.in-Some.ensures.next f forest stands)
    ∙ ap (λ b. b || list_any (is_required c.args.tree.now) (members_behind f c.args.radio (Some c.in-Some.member)))
    (sym c.is_required.ensures ∙ c.if-is_required.true))

pub returns : goal.returns
returns c = λ f forest stands.
    let none = sym c.in_default.is ∙ c.next_in_group.ensures.next f forest stands in
    sym (c.loop-member.invariant.left f forest stands ∙ any-end f c.args.radio (is_required c.args.tree.now) c.loop-member.at none)
