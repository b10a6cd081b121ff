use Rattle.std.proofs.Common.{◌+◌, ap, sym, ◌∙◌}
use Rattle.std.specs.Option.{option_copied}
use Rattle.ordered_tables.specs.Held.{is_known}
use Rattle.form_owner.specs.Attributes.{is_text}
use Rattle.form_owner.specs.Looks.{look_at}
use Rattle.form_owner.proofs.Minding.{form-seen, kept-with, same-lent}
use Rattle.form_owner.proofs.Looking.{the-same}
use Rattle.form_owner.proofs.texts.mind_form.Goals as goal

pub returns-in-Some : goal.returns-in-Some
returns-in-Some c =
    kept-with c.args.n c.args.tree.now (is_known c.args.named.now) c.args.looks.now c.mind_text.new.looks c.mind_text.ensures.less
    (λ i nothing un id at. ap (is_text id) (sym c.attr-new.ensures.value) ∙ ap (λ o. is_text id (option_copied o)) c.in-Some.is
    ∙ c.mind_text.ensures.ids i nothing un id at)

pub returns-in-None : goal.returns-in-None
returns-in-None c =
    kept-with c.args.n c.args.tree.now (is_known c.args.named.now) c.args.looks.now c.args.looks.now (λ i. the-same (look_at c.args.looks.now i))
    (λ i nothing un id at. ap (is_text id) (sym c.attr-new.ensures.value) ∙ ap (λ o. is_text id (option_copied o)) c.in-None.is)

pub returns-else-ne : goal.returns-else-ne
returns-else-ne c =
    kept-with c.args.n c.args.tree.now (is_known c.args.named.now) c.args.looks.now c.args.looks.now (λ i. the-same (look_at c.args.looks.now i))
    (λ i nothing un id at. form-seen c.args.n c.args.tree.now c.args.rows.now c.args.named.now c.requires.node.low c.requires.noted
    (sym c.form_seen_in-old.ensures ∙ same-lent c.form_seen_in-old.result c.attr-new.result (sym c.ne.ensures ∙ c.if-ne.false) ∙ c.attr-new.ensures.value)
    (i + 1) id (un id at))
