use Rattle.std.proofs.Common.{◌∙◌}
use Rattle.form_owner.proofs.Covered.{changes-covered}
use Rattle.form_owner.proofs.renewal.renew.Goals as goal

pub write_read-requires-clause-changes : goal.write_read-requires-clause-changes
write_read-requires-clause-changes c =
    c.in_ok-changes.ensures ∙ changes-covered c.args.tree.now c.args.rows.now c.args.candidates.now c.requires.rising c.requires.nodes c.requires.covers

pub returns-clause-changes : goal.returns-clause-changes
returns-clause-changes c = c.in_ok-changes.ensures
    ∙ changes-covered c.args.tree.now c.args.rows.now c.args.candidates.now c.requires.rising c.requires.nodes c.requires.covers
