use Rattle.std.proofs.Common.{◌∙◌}
use Rattle.form_controls.specs.Options.{options_of}
use Rattle.control_state.proofs.Chosen.{one-found}
use Rattle.control_state.proofs.table.ControlTable.chosen_one.Goals as goal

pub returns : goal.returns
returns c = c.or.ensures ∙ one-found c.args.self.now c.args.tree.now c.found_in-found.result (options_of c.args.tree.now c.args.select) c.found_in-found.ensures
