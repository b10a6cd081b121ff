use Rattle.std.proofs.Common.{sym, ◌∙◌}
use Rattle.ordered_tables.specs.Held.{is_known}
use Rattle.form_owner.proofs.Minding.{text-known}
use Rattle.form_owner.proofs.texts.mind_text.Goals as goal

pub returns-then-is_known-clause-ids : goal.returns-then-is_known-clause-ids
returns-then-is_known-clause-ids c =
    λ i nothing un id at. text-known c.args.tree.now (is_known c.args.named.now) i id (un id at) c.args.text.now (sym c.is_known.ensures ∙ c.if-is_known.true)
