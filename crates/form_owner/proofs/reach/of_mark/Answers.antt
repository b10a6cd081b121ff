use Rattle.form_owner.proofs.Considering.{from_none, one}
use Rattle.form_owner.proofs.reach.of_mark.Goals as goal

pub returns : goal.returns
returns c = from_none c.make-found.ensures (one c.args.n c.make-found.result c.add.new.self c.requires c.in_ok-add.ensures)
