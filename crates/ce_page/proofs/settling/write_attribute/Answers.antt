use Rattle.std.proofs.Common.{refl}
use Rattle.ce_page.proofs.CopyLemmas.{nothing_changes}
use Rattle.ce_page.proofs.StepLemmas.{on_ok}
use Rattle.ce_page.proofs.settling.write_attribute.Goals as goal

pub returns-then-not-settled-clause-changes : goal.returns-then-not-settled-clause-changes
returns-then-not-settled-clause-changes c = nothing_changes _ _

pub returns-clause-settled : goal.returns-clause-settled
returns-clause-settled c = on_ok c.set_attr.result c.if-not-settled.false

pub returns-clause-begun : goal.returns-clause-begun
returns-clause-begun c = on_ok c.set_attr.result refl

pub returns-clause-tidy : goal.returns-clause-tidy
returns-clause-tidy c = on_ok c.set_attr.result c.set_attr.ensures.tidy

pub returns-clause-was : goal.returns-clause-was
returns-clause-was c = rw c.in_ok-name.ensures.name at c.set_attr.ensures.was
