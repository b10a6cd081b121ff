use Rattle.form_owner.proofs.Considering.{one}
use Rattle.form_owner.proofs.candidates.consider.Goals as goal

pub returns-in_ok-add : goal.returns-in_ok-add
returns-in_ok-add c = one c.args.n c.args.found.now c.add.new.self c.requires c.in_ok-add.ensures
