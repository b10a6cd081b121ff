use Rattle.std.proofs.Common.{◌∙◌}
use Rattle.node_arena.proofs.AttributeLemmas.{with_value-next}
use Rattle.node_arena.proofs.attributes.map_few.Goals as goal

pub loop-item-preserved : goal.loop-item-preserved
loop-item-preserved c =
    rw (c.in_ok-name.ensures, c.in_ok-value.ensures, c.loop-item.invariant) at c.in_ok-set.ensures.ok
    ∙ with_value-next c.args.items.now c.loop-item.item-index c.item-item.result c.requires c.loop-item-test.true c.item-item.is
