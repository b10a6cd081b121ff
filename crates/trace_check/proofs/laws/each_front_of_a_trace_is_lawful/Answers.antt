use Rattle.trace_check.proofs.TraceLaws.{front_lawful}
use Rattle.trace_check.proofs.laws.each_front_of_a_trace_is_lawful.Goals as goal

pub returns : goal.returns
returns c = front_lawful c.each_front_is_lawful.ensures
