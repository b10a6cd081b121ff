use Rattle.std.proofs.Common.{refl, sym, ◌∙◌}
use Rattle.tree_laws.proofs.Climbing.{test-apart, test-same}
use Rattle.tree_laws.proofs.TreeMembers.{member-root, member-none, member-parent, member-less}
use Rattle.node_arena.proofs.tree.Tree.is_below.Goals as goal

pub loop-root-init : goal.loop-root-init
loop-root-init c = record { tidy = c.count-count.ensures.tidy; node = c.requires.node; same = refl }

pub loop-root-smaller : goal.loop-root-smaller
loop-root-smaller c = member-less _ _ _ c.loop-root.invariant.tidy c.loop-root.invariant.node c.in-Some.ensures.parent

pub loop-root-preserved : goal.loop-root-preserved
loop-root-preserved c = record {
  tidy = c.loop-root.invariant.tidy;
  node = c.in-Some.ensures.node;
  same = c.loop-root.invariant.same
      ∙ member-parent c.args.self.now c.args.root c.loop-root.invariant.tidy c.requires.root _
      (test-apart _ _ (sym c.ne.ensures ∙ c.loop-root-test.true)) _ c.in-Some.ensures.parent;
}

pub returns-in-None : goal.returns-in-None
returns-in-None c = member-none c.args.self.now c.args.root c.loop-root.invariant.tidy c.requires.root _
    (test-apart _ _ (sym c.ne.ensures ∙ c.loop-root-test.true)) c.in-None.ensures.parent ∙ sym c.loop-root.invariant.same

pub returns : goal.returns
returns c = member-root c.args.self.now c.args.root c.loop-root.invariant.tidy c.requires.root _ (test-same _ _ (sym c.ne.ensures ∙ c.loop-root-test.false))
    ∙ sym c.loop-root.invariant.same
