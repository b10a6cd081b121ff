use Rattle.std.specs.Option.{option_copied}
use Rattle.ordered_tables.specs.Held.{is_held}
use Rattle.form_owner.specs.Candidates.{is_concerned}
use Rattle.form_owner.proofs.Reaching.{grouped, of-change, ungrouped}
use Rattle.form_owner.proofs.reach.of_change.Goals.{then-disabled_seen_in-has_disabled+in_ok-consider_below, else-disabled_seen_in-has_disabled}
use Rattle.form_owner.proofs.reach.of_change.Goals as goal

pub returns : goal.returns
returns c =
    of-change c.args.tree.now (is_concerned c.args.tree.now c.args.rows.now) (is_held c.args.named.now) c.args.n c.args.rows.now
    (option_copied c.id_seen_in.result)
    (option_copied c.attr.result) c.make-found.result c.consider.new.found c.consider_ids.new.found c.if-disabled_seen_in-has_disabled.found
    c.make-found.ensures c.id_seen_in.ensures c.attr.ensures.value c.in_ok-consider.ensures c.in_ok-consider_ids.ensures
    (elim c.if-disabled_seen_in-has_disabled.branch [
      | then-disabled_seen_in-has_disabled+in_ok-consider_below w ↦ rw w.found-is
          (grouped c.args.tree.now (is_concerned c.args.tree.now c.args.rows.now)
          (is_held c.args.named.now) c.args.n c.args.rows.now c.consider_ids.new.found w.consider_below.new.found w.in_ok-consider_below.ensures)
      | else-disabled_seen_in-has_disabled w ↦ ungrouped c.args.tree.now (is_concerned c.args.tree.now c.args.rows.now)
          (is_held c.args.named.now) c.args.n c.args.rows.now c.consider_ids.new.found c.if-disabled_seen_in-has_disabled.found w.found-is
          (rw (← c.disabled_seen_in.ensures, ← c.has_disabled.ensures) w.if-disabled_seen_in-has_disabled.false)
    ])
