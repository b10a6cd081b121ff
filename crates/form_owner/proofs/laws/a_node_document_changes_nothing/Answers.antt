use Rattle.form_owner.proofs.Making.{stands_adopted}
use Rattle.form_owner.proofs.laws.a_node_document_changes_nothing.Goals as goal

pub returns : goal.returns
returns c = stands_adopted
