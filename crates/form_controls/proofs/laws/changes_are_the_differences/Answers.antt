use Rattle.form_controls.proofs.Differ.{changes_are_differences, differences_are_changes}
use Rattle.form_controls.proofs.laws.changes_are_the_differences.Goals as goal

pub returns-clause-told : goal.returns-clause-told
returns-clause-told c = changes_are_differences

pub returns-clause-all : goal.returns-clause-all
returns-clause-all c = differences_are_changes
