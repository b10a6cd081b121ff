use Rattle.std.proofs.Common.{sym, ◌∙◌}
use Rattle.form_owner.proofs.Leaving.{left-form, left-none}
use Rattle.form_owner.proofs.moving.leave.Goals as goal

pub returns-in-Some : goal.returns-in-Some
returns-in-Some c = left-form c.args.rows.now c.requires c.args.n c.in-Some.form c.take_from.new.rows
    (sym c.owner_in.ensures ∙ c.in-Some.is) c.take_from.ensures

pub returns-in_default : goal.returns-in_default
returns-in_default c = left-none c.args.rows.now c.requires c.args.n (sym c.owner_in.ensures ∙ c.in_default.is)
