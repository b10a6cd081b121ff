use Rattle.std.proofs.Common.{◌∙◌}
use Rattle.owner_rows.proofs.Placing.{placed-among}
use Rattle.owner_rows.proofs.control_list.is_in.Goals as goal

pub returns : goal.returns
returns c = c.is_some.ensures ∙ placed-among c.args.n c.args.list.now c.place_in.result c.place_in.ensures.found c.place_in.ensures.none
