use Rattle.std.proofs.Common.{refl}
use Rattle.std.proofs.lemmas.Result.{on_ok_weaker}
use Rattle.ordered_tables.specs.Held.{is_known}
use Rattle.form_owner.proofs.Considering.{both, less}
use Rattle.form_owner.proofs.Looking.{noted-whole}
use Rattle.form_owner.proofs.reach.consider_inside.Goals as goal

pub consider_each-requires : goal.consider_each-requires
consider_each-requires c = noted-whole c.args.tree.now c.args.rows.now (is_known c.args.named.now) c.args.looks.now c.requires.looks

pub returns : goal.returns
returns c =
    on_ok_weaker c.consider_each.result
    (λ all. less (λ m passes. refl) (both c.in_ok-consider_near.ensures.some all))
    c.consider_each.ensures
