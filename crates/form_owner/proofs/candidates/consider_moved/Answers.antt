use Rattle.std.proofs.Common.{sym, ◌∙◌}
use Rattle.form_owner.proofs.Looking.{passed-by}
use Rattle.form_owner.proofs.candidates.consider_moved.Goals as goal

pub returns-in-Nothing : goal.returns-in-Nothing
returns-in-Nothing c =
    passed-by c.args.tree.now c.args.rows.now c.args.named.now c.args.looks.now c.requires.looks c.args.n c.requires.node
    (sym c.in-Nothing.is ∙ c.at.ensures) c.args.found.now
