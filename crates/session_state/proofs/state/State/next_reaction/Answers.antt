use Rattle.session_state.proofs.QueueLaws.{next_reaction-first}
use Rattle.session_state.proofs.state.State.next_reaction.Goals as goal

pub returns-clause-first : goal.returns-clause-first
returns-clause-first c = next_reaction-first c.next.result c.args.e _ c.args.self.now c.next.new.self c.self.view_is c.next.ensures.first c.next.ensures.page
