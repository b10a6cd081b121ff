use Rattle.ordered_tables.specs.Held.{is_held}
use Rattle.form_owner.specs.Candidates.{is_concerned}
use Rattle.form_owner.proofs.Reaching.{of-move}
use Rattle.form_owner.proofs.reach.of_move.Goals as goal

pub returns : goal.returns
returns c =
    of-move c.args.tree.now (is_concerned c.args.tree.now c.args.rows.now)
    (is_held c.args.named.now) c.args.n c.args.parent c.make-found.result c.consider_inside.new.found c.consider_fieldset.new.found
    c.make-found.ensures c.in_ok-consider_inside.ensures c.in_ok-consider_fieldset.ensures
