use Rattle.node_trees.specs.Trees.{cut, graft}
use Rattle.above_reading.proofs.KeptByShift.{found-stays, named-stays}
use Rattle.above_reading.proofs.Shift.{cut-shift, graft-shift}
use Rattle.above_reading.proofs.orders.what_is_found_stays_where_another_tree_moves.Goals as goal

pub returns-clause-graft : goal.returns-clause-graft
returns-clause-graft c = λ f p n b tidy is_p is_n may free. found-stays f (graft f p n b) n p (graft-shift f p n b tidy is_p is_n may free)

pub returns-clause-cut : goal.returns-clause-cut
returns-clause-cut c = λ f n p tidy node up. found-stays f (cut f n) n p (cut-shift f n p tidy node up)

pub returns-clause-named_graft : goal.returns-clause-named_graft
returns-clause-named_graft c = λ f p n b tidy is_p is_n may free. named-stays f (graft f p n b) n p (graft-shift f p n b tidy is_p is_n may free)

pub returns-clause-named_cut : goal.returns-clause-named_cut
returns-clause-named_cut c = λ f n p tidy node up. named-stays f (cut f n) n p (cut-shift f n p tidy node up)
