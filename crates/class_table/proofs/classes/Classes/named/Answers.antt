use Rattle.std.proofs.Common.{◌∙◌}
use Rattle.class_table.proofs.ClassesLaws.{named-within}
use Rattle.class_table.proofs.classes.Classes.named.Goals as goal

pub returns-clause-within : goal.returns-clause-within
returns-clause-within c = rw (c.copied.ensures ∙ (c.get.ensures.value ∙ c.self.invariant c.args.name.now), ← c.self.view_is)
    (named-within c.self.inside.items.items c.args.name.now)
