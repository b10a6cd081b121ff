use Rattle.std.proofs.Common.{ap, sym, ◌∙◌}
use Rattle.node_trees.specs.Facts.{value_in}
use Rattle.node_arena.specs.Attributes.{pairs_of}
use Rattle.node_arena.proofs.attributes.Attributes.get.Goals as goal

pub returns-in-Few : goal.returns-in-Few
returns-in-Few c = c.get_few.ensures ∙ ap (λ xs. value_in xs c.args.name.now) (c.deref.ensures.value ∙ sym (ap pairs_of c.in-Few.is) ∙ c.self.view_is)

pub returns-in-Many : goal.returns-in-Many
returns-in-Many c = c.get.ensures ∙ ap (λ xs. value_in xs c.args.name.now) (c.deref-in-Many.ensures ∙ sym (ap pairs_of c.in-Many.is) ∙ c.self.view_is)
