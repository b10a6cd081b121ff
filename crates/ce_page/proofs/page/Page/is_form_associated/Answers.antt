use Rattle.std.proofs.Common.{sym, ◌∙◌}
use Rattle.ce_page.proofs.AssociatedLemmas.{is_associated_at}
use Rattle.ce_page.proofs.page.Page.is_form_associated.Goals as goal

pub returns-clause-among : goal.returns-clause-among
returns-clause-among c = λ low. c.goes_by_class.ensures.definition ∙ sym (is_associated_at c.args.self.now.definitions c.args.self.now.elements c.args.n low)
