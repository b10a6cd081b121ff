use Rattle.ce_machine.proofs.OperateLaws.{went_lasts}
use Rattle.ce_machine.proofs.react.stepped.Goals as goal

pub returns-in_ok-now-in-Ok-clause-lasts : goal.returns-in_ok-now-in-Ok-clause-lasts
returns-in_ok-now-in-Ok-clause-lasts c = went_lasts c.args.ran c.in-Ok.given c.args.queue c.args.state.now c.in-Ok.is c.requires
