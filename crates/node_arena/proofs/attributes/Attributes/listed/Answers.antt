use Rattle.std.proofs.Common.{ap, sym, ◌∙◌}
use Rattle.node_arena.specs.Attributes.{pairs_of}
use Rattle.node_arena.proofs.attributes.Attributes.listed.Goals as goal

pub returns-in-Few : goal.returns-in-Few
returns-in-Few c = rw (c.deref.ensures.value ∙ sym (ap pairs_of c.in-Few.is) ∙ c.self.view_is) at c.list_few.ensures

pub returns-in-Many : goal.returns-in-Many
returns-in-Many c = rw (c.deref-in-Many.ensures ∙ sym (ap pairs_of c.in-Many.is) ∙ c.self.view_is) at c.listed.ensures
