use Rattle.ce_page.proofs.RowLemmas.{row_is}
use Rattle.std.proofs.Common.{sym}
use Rattle.ce_page.proofs.page.Page.definition.Goals as goal

pub returns-clause-element : goal.returns-clause-element
returns-clause-element c = row_is c.args.self.now c.args.n c.definition_in_row.result c.tree-tree.ensures.sound.rows (sym c.definition_in_row.ensures)
