use Rattle.std.proofs.Common.{sym}
use Rattle.session_state.proofs.PlaceLaws.{finds-set}
use Rattle.session_state.proofs.VariableLaws.{highest-set, positive-set}
use Rattle.session_state.proofs.variables.Variables.set.Goals as goal

pub invariant_of-self : goal.invariant_of-self
invariant_of-self c = (
  positive-set c.self.inside.items.items c.in-Some.i _ _ c.self.invariant.0 c.requires,
  finds-set c.self.inside.places c.self.inside.items.items c.args.name c.in-Some.i c.args.n c.self.invariant.1
      (rw (c.as_str.ensures, ← c.self.view_is) at (sym c.in-Some.ensures.place)),
)

pub returns-in-Some-clause-highest : goal.returns-in-Some-clause-highest
returns-in-Some-clause-highest c = rw (← c.self.view_is) (highest-set c.self.inside.items.items c.in-Some.i c.args.name c.args.n)
