use Rattle.session_state.proofs.DropsLaws.{drop_first-none}
use Rattle.session_state.proofs.QueueLaws.{drop_first-first}
use Rattle.session_state.proofs.state.State.drop_first.Goals as goal

pub returns-clause-none : goal.returns-clause-none
returns-clause-none c = drop_first-none c.drop_first.result c.args.n _ c.args.self.now c.drop_first.new.self c.self.view_is c.drop_first.ensures.first
    c.drop_first.ensures.page c.drop_first.ensures.empty

pub returns-clause-first : goal.returns-clause-first
returns-clause-first c = drop_first-first c.drop_first.result c.args.n _ c.args.self.now c.drop_first.new.self c.self.view_is c.drop_first.ensures.first
    c.drop_first.ensures.page
