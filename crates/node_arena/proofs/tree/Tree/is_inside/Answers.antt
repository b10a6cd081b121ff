use Rattle.std.proofs.Common.{sym, ◌∙◌}
use Rattle.tree_laws.proofs.Walked.{walked}
use Rattle.tree_laws.proofs.WayUp.{among_here, among_above, among_none}
use Rattle.node_arena.proofs.tree.Tree.is_inside.Goals as goal

pub returns-then-eq-clause-above : goal.returns-then-eq-clause-above
returns-then-eq-clause-above c =
    sym (c.loop-node.invariant.1 ∙ among_here _ c.args.node c.loop-node.at _ c.above-above.ensures.up (sym c.eq.ensures ∙ c.if-eq.true))

pub returns-then-eq-clause-walked : goal.returns-then-eq-clause-walked
returns-then-eq-clause-walked c = returns-then-eq-clause-above c ∙ sym (walked c.args.self.now c.args.node c.args.from c.above-above.ensures.tidy)

pub returns-in-None-clause-above : goal.returns-in-None-clause-above
returns-in-None-clause-above c = sym (c.loop-node.invariant.1 ∙ among_none _ c.args.node c.loop-node.at c.in-None.ensures.up (sym c.eq.ensures ∙ c.if-eq.false))

pub returns-in-None-clause-walked : goal.returns-in-None-clause-walked
returns-in-None-clause-walked c = returns-in-None-clause-above c ∙ sym (walked c.args.self.now c.args.node c.args.from c.above-above.ensures.tidy)

pub loop-node-preserved : goal.loop-node-preserved
loop-node-preserved c = (
  c.in-Some.ensures.up.0,
  c.loop-node.invariant.1
      ∙ among_above _ c.args.node c.loop-node.at c.in-Some.next c.in-Some.ensures.up (sym c.eq.ensures ∙ c.if-eq.false),
)
