use Rattle.ce_machine.proofs.RestedLaws.{all_at_home}
use Rattle.ce_machine.proofs.machine.rested.Goals as goal

pub returns-clause-at_home : goal.returns-clause-at_home
returns-clause-at_home c = all_at_home c.args.stack.value c.args.state.value c.requires (rw c.deref.ensures at c.is_empty-empty.ensures.one_place)
