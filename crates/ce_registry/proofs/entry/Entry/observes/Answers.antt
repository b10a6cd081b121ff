use Rattle.std.proofs.Common.{◌∙◌}
use Rattle.ce_registry.proofs.entry.Entry.observes.Goals as goal

pub returns : goal.returns
returns c = rw (← c.self.view_is) (c.contains.ensures ∙ c.self.invariant c.args.name.now)
