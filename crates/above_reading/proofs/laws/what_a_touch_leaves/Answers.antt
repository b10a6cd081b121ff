use Rattle.std.proofs.Common.{refl}
use Rattle.node_trees.specs.Facts.{with_value, without_value}
use Rattle.above_reading.proofs.Attributes.{unchanged-with}
use Rattle.above_reading.proofs.Moves.{unchanged-graft, unchanged-cut}
use Rattle.above_reading.proofs.SameReads.{unchanged-marked}
use Rattle.above_reading.proofs.laws.what_a_touch_leaves.Goals as goal

pub returns-clause-graft : goal.returns-clause-graft
returns-clause-graft c = λ f p n b tidy is_p is_n is_b may free m is_m aside. unchanged-graft f p n b tidy is_p is_n is_b may free m is_m aside

pub returns-clause-cut : goal.returns-clause-cut
returns-clause-cut c = λ f n p tidy is_n up m is_m aside. unchanged-cut f n p tidy is_n up m is_m aside

pub returns-clause-set : goal.returns-clause-set
returns-clause-set c = λ f n name value tidy is_n m is_m aside.
    unchanged-with f n (λ x. record x { attributes = with_value name value x.attributes }) (λ x. refl) (λ x. refl) tidy is_n m is_m aside

pub returns-clause-gone : goal.returns-clause-gone
returns-clause-gone c = λ f n name tidy is_n m is_m aside.
    unchanged-with f n (λ x. record x { attributes = without_value name x.attributes }) (λ x. refl) (λ x. refl) tidy is_n m is_m aside

pub returns-clause-marked : goal.returns-clause-marked
returns-clause-marked c = λ f other m same. unchanged-marked f other m same
