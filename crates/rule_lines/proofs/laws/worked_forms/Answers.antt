use Rattle.std.proofs.Common.{refl}
use Rattle.rule_lines.proofs.laws.worked_forms.Goals as goal

pub returns-clause-create : goal.returns-clause-create
returns-clause-create c = (tt, tt, refl, refl, refl, refl, refl)

pub returns-clause-actions : goal.returns-clause-actions
returns-clause-actions c = (tt, refl, refl, refl, refl, refl, refl)

pub returns-clause-others : goal.returns-clause-others
returns-clause-others c = (refl, refl, refl, refl, refl, tt, refl, refl, refl)

pub returns-clause-user : goal.returns-clause-user
returns-clause-user c = (tt, tt, tt, refl, refl, refl)
