use Rattle.session_state.proofs.QueueLaws.{next_backup-first}
use Rattle.session_state.proofs.state.State.next_backup.Goals as goal

pub returns-clause-first : goal.returns-clause-first
returns-clause-first c = next_backup-first c.next_backup.result _ c.args.self.now c.next_backup.new.self c.self.view_is c.next_backup.ensures.first
    c.next_backup.ensures.page
