use Rattle.std.proofs.Common.{Some, sym, ap, ◌∙◌}
use Rattle.session_state.proofs.PlaceLaws.{made-there, value-absent, value-there}
use Rattle.session_state.proofs.variables.Variables.get.Goals as goal

pub returns-in-None-clause-value : goal.returns-in-None-clause-value
returns-in-None-clause-value c = sym (value-absent c.args.self.now c.args.name.now (sym c.in-None.ensures.place))

pub returns-in-Some-clause-value : goal.returns-in-Some-clause-value
returns-in-Some-clause-value c =
    ap (λ x. Some x.1) c.index.ensures
    ∙ rw (← c.self.view_is) (sym (value-there c.self.inside.items.items c.args.name.now c.in-Some.i c.index.result.now
    (rw (← c.self.view_is) at (sym c.in-Some.ensures.place))))

pub returns-in-Some-clause-made : goal.returns-in-Some-clause-made
returns-in-Some-clause-made c =
    let made = made-there c.self.inside.items.items c.args.name.now c.in-Some.i c.index.result.now c.self.invariant.0
    (rw (← c.self.view_is) at (sym c.in-Some.ensures.place)) in
    rw (c.index.ensures, ← c.self.view_is) made
