use Rattle.form_owner.proofs.Listing.{listed-next}
use Rattle.form_owner.proofs.controls.list_controls.Goals as goal

pub loop-i-preserved : goal.loop-i-preserved
loop-i-preserved c =
    listed-next c.args.tree.now c.args.forms.now c.loop-i.i c.node_at.result c.node_at.ensures.here c.node_at.ensures.node c.args.rows.now c.loop-i.rows
    c.list_of.new.rows c.loop-i.invariant c.in_ok-list_of.ensures
