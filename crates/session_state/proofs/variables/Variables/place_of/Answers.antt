use Rattle.std.proofs.Common.{◌∙◌}
use Rattle.session_state.proofs.PlaceLaws.{place-within}
use Rattle.session_state.proofs.variables.Variables.place_of.Goals as goal

pub returns-clause-place : goal.returns-clause-place
returns-clause-place c = rw (← c.self.view_is) (c.copied.ensures ∙ (c.get.ensures.value ∙ c.self.invariant.1 c.args.name.now))

pub returns-clause-within : goal.returns-clause-within
returns-clause-within c = rw (c.copied.ensures ∙ (c.get.ensures.value ∙ c.self.invariant.1 c.args.name.now), ← c.self.view_is)
    (place-within c.self.inside.items.items c.args.name.now)
