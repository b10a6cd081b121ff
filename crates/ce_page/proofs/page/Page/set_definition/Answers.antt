use Rattle.std.proofs.Common.{None, ap, sym, ◌∙◌}
use Rattle.std.specs.Prelude.{◌-◌}
use Rattle.ce_page.proofs.RowLemmas.{same_row}
use Rattle.ce_page.proofs.page.Page.set_definition.Goals as goal

pub returns-in-None-definition-clause-page : goal.returns-in-None-definition-clause-page
returns-in-None-definition-clause-page c =
    let none = sym c.definition.ensures.definition ∙ c.in-None-definition.is in
    rw c.in-None.is (ap (λ es. record c.args.self.now { elements = es }) (sym (same_row c.args.self.now.elements (c.args.n - 1) None none)))
