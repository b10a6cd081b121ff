use Rattle.session_state.proofs.upgrade.tell_attributes.Goals as goal

pub returns-clause-step : goal.returns-clause-step
returns-clause-step c = rw (c.deref.ensures.value, c.in_ok-attributes.ensures.list, c.tree.ensures.tree) at c.tell_each.ensures.step
