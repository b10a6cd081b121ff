use Rattle.ce_events.proofs.CallLaws.{says_its_call}
use Rattle.ce_events.proofs.calls.a_line_says_its_call.Goals as goal

pub returns : goal.returns
returns c = says_its_call
