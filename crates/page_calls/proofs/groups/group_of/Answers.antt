use Rattle.std.proofs.Common.{◌≡◌, ◌++◌, ◌∷◌, [], Some, None, ap, sym, subst, ◌∙◌, append_assoc, append-nil}
use Rattle.node_trees.specs.Nodes.{IsTidy}
use Rattle.form_controls.specs.Checkedness.{next_in_group}
use Rattle.ce_algorithms.specs.Forms.{forms_of}
use Rattle.validity.specs.Groups.{members_behind}
use Rattle.validity.proofs.GroupWalks.{members-less, members-step, members-end}
use Rattle.page_calls.proofs.groups.group_of.Goals as goal

pub loop-member-smaller : goal.loop-member-smaller
loop-member-smaller c =
    let next = c.in-Some.ensures.next (forms_of c.args.page.now) (sym c.tree-tree.ensures.tree) (c.owners-owners.ensures c.requires.settled) in
    members-less (forms_of c.args.page.now) c.args.radio (subst IsTidy c.tree-tree.ensures.tree c.count-count.ensures.tidy) c.loop-member.at c.in-Some.member
    next

pub loop-member-preserved : goal.loop-member-preserved
loop-member-preserved c =
    let f = forms_of c.args.page.now in
    let next = c.in-Some.ensures.next f (sym c.tree-tree.ensures.tree) (c.owners-owners.ensures c.requires.settled) in
    let left = members_behind f c.args.radio (Some c.in-Some.member) in
    record {
      member = c.in-Some.ensures.member;
      split = c.loop-member.invariant.split
          ∙ ap (λ ms. c.loop-member.members ++ ms)
          (members-step f c.args.radio (subst IsTidy c.tree-tree.ensures.tree c.count-count.ensures.tidy) c.loop-member.at c.in-Some.member next)
          ∙ sym (append_assoc c.loop-member.members (c.in-Some.member ∷ []) left)
          ∙ ap (λ ms. ms ++ left) (sym c.in_ok-push.ensures);
    }

pub returns : goal.returns
returns c =
    let f = forms_of c.args.page.now in
    let none : None ≡ next_in_group f c.args.radio c.loop-member.at =
    sym c.in_default.is ∙ c.next_in_group.ensures.next f (sym c.tree-tree.ensures.tree) (c.owners-owners.ensures c.requires.settled) in
    sym (c.loop-member.invariant.split ∙ ap (λ ms. c.loop-member.members ++ ms) (members-end f c.args.radio c.loop-member.at none)
    ∙ append-nil c.loop-member.members)
