use Rattle.std.proofs.Common.{ap, sym, ◌∙◌}
use Rattle.node_arena.specs.Attributes.{pairs_of}
use Rattle.node_arena.proofs.attributes.Attributes.make_room.Goals as goal

pub map_few-requires : goal.map_few-requires
map_few-requires c = rw c.as_slice-items.ensures.value (rw c.in-Few.is at c.self.invariant)

pub returns : goal.returns
returns c = c.in_ok-new.ensures.ok ∙ c.in_ok-map.ensures ∙ c.as_slice-items.ensures.value ∙ sym (ap pairs_of c.in-Few.is) ∙ c.self.view_is
