use Rattle.above_reading.proofs.TogetherCut.{together-cut}
use Rattle.above_reading.proofs.TogetherGraft.{together-graft}
use Rattle.above_reading.proofs.orders.what_stays_together_stays_in_order.Goals as goal

pub returns-clause-graft : goal.returns-clause-graft
returns-clause-graft c = λ f p n b tidy is_p is_n is_b may free. together-graft f p n b tidy is_p is_n may free

pub returns-clause-cut : goal.returns-clause-cut
returns-clause-cut c = together-cut
