use Rattle.std.proofs.Common.{◌∙◌, sym}
use Rattle.form_controls.specs.Options.{options_of}
use Rattle.control_state.proofs.Chosen.{first-found-is, first-one}
use Rattle.control_state.proofs.Listing.{first-or-none}
use Rattle.control_state.proofs.table.ControlTable.first_chosen.Goals as goal

pub returns-then-is_multiple-clause-option : goal.returns-then-is_multiple-clause-option
returns-then-is_multiple-clause-option c =
    rw (sym c.is_multiple.ensures ∙ c.if-is_multiple.true)
    (first-found-is c.args.self.now c.args.tree.now c.found_in.result (options_of c.args.tree.now c.args.select) c.found_in.ensures)

pub returns-then-is_multiple-clause-node : goal.returns-then-is_multiple-clause-node
returns-then-is_multiple-clause-node c =
    first-or-none c.args.tree.now c.count-count.ensures.tidy c.args.self.now c.args.select _ c.requires (returns-then-is_multiple-clause-option c)

pub returns-else-is_multiple-clause-option : goal.returns-else-is_multiple-clause-option
returns-else-is_multiple-clause-option c = rw (sym c.is_multiple.ensures ∙ c.if-is_multiple.false) (c.chosen_one.ensures ∙ first-one _)

pub returns-else-is_multiple-clause-node : goal.returns-else-is_multiple-clause-node
returns-else-is_multiple-clause-node c =
    first-or-none c.args.tree.now c.count-count.ensures.tidy c.args.self.now c.args.select _ c.requires (returns-else-is_multiple-clause-option c)
