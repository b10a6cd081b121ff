use Rattle.std.proofs.Common.{ap, sym, subst, ◌∙◌}
use Rattle.above_reading.specs.Ways.{IsUpward, first_or}
use Rattle.above_reading.proofs.Climbs.{first-push, upward-push}
use Rattle.owner_reading.proofs.Ancestors.{ancestors-less}
use Rattle.above_reading.proofs.known.Known.climb.Goals as goal

pub loop-above-smaller : goal.loop-above-smaller
loop-above-smaller c = ancestors-less _ _ c.requires.tidy c.loop-above.invariant.node _ c.in-Some-parent.ensures.parent

pub loop-above-preserved : goal.loop-above-preserved
loop-above-preserved c =
    let items = c.in_ok-push-in-Some-parent.ensures.items in
    let parent = c.in-Some-parent.parent in
    record {
      node = c.in-Some-parent.ensures.node;
      first = ap (λ ns. first_or ns parent) items ∙ first-push c.loop-above.way.items c.loop-above.at parent ∙ c.loop-above.invariant.first;
      way =
          subst (λ ns. IsUpward c.args.tree.now ns parent) (sym items)
          (upward-push c.args.tree.now c.loop-above.way.items c.loop-above.at parent c.loop-above.invariant.node
          (sym c.in-Some-parent.ensures.parent) c.loop-above.invariant.way);
    }
