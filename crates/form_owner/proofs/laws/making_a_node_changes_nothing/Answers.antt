use Rattle.form_owner.proofs.Making.{stands_made, stands_hung}
use Rattle.form_owner.proofs.laws.making_a_node_changes_nothing.Goals as goal

pub returns-clause-root : goal.returns-clause-root
returns-clause-root c = stands_made

pub returns-clause-shadow_root : goal.returns-clause-shadow_root
returns-clause-shadow_root c = stands_hung
