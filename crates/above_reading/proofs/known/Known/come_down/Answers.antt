use Rattle.std.proofs.Common.{ap, sym, subst, ◌∙◌}
use Rattle.above_reading.specs.Ways.{IsUpward, first_or}
use Rattle.above_reading.proofs.Climbs.{first-push, upward-pop}
use Rattle.above_reading.proofs.known.Known.come_down.Goals as goal

pub above_child-next-requires-clause-node : goal.above_child-next-requires-clause-node
above_child-next-requires-clause-node c =
    (upward-pop c.args.tree.now c.pop.new.self.items c.in-Some.child c.loop-child.at
    (subst (λ ns. IsUpward c.args.tree.now ns c.loop-child.at) c.in-Some.ensures.items c.loop-child.invariant.way)).node

pub above_child-next-requires-clause-parent : goal.above_child-next-requires-clause-parent
above_child-next-requires-clause-parent c =
    (upward-pop c.args.tree.now c.pop.new.self.items c.in-Some.child c.loop-child.at
    (subst (λ ns. IsUpward c.args.tree.now ns c.loop-child.at) c.in-Some.ensures.items c.loop-child.invariant.way)).up

pub loop-child-preserved : goal.loop-child-preserved
loop-child-preserved c =
    let last =
    upward-pop c.args.tree.now c.pop.new.self.items c.in-Some.child c.loop-child.at
    (subst (λ ns. IsUpward c.args.tree.now ns c.loop-child.at) c.in-Some.ensures.items c.loop-child.invariant.way)
    in
    record {
      node = last.node;
      known = c.in_ok-put-2.ensures c.args.tree.now c.loop-child.invariant.known c.above_child-next.ensures;
      found = c.above_child-next.ensures;
      way = last.way;
      first =
          sym (first-push c.pop.new.self.items c.in-Some.child c.loop-child.at)
          ∙ ap (λ ns. first_or ns c.loop-child.at) (sym c.in-Some.ensures.items)
          ∙ c.loop-child.invariant.first;
    }
