use Rattle.tree_laws.proofs.NewNode.{alike_new, alike_hung}
use Rattle.tree_laws.proofs.laws.making_a_node_changes_no_other.Goals as goal

pub returns-clause-root : goal.returns-clause-root
returns-clause-root c = λ f n x free bare. alike_new n x f free bare

pub returns-clause-shadow_root : goal.returns-clause-shadow_root
returns-clause-shadow_root c = λ f n host x free bare. alike_hung n x f free host bare
