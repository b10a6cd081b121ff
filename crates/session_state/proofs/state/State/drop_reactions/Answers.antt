use Rattle.std.proofs.Common.{ap, ◌∙◌}
use Rattle.ce_algorithms.specs.Page.{Page}
use Rattle.ce_algorithms.specs.Upgrade.{drop_reactions}
use Rattle.session_state.proofs.DropsLaws.{dropped_one}
use Rattle.session_state.proofs.state.State.drop_reactions.Goals as goal

pub loop-number-preserved : goal.loop-number-preserved
loop-number-preserved c = record {
  step =
      ap (drop_reactions c.args.n) c.in_ok-log.ensures.logged
      ∙ (dropped_one c.args.n c.in-Some.number c.loop-number.self c.drop_first.new.self c.in-Some.ensures.first
      ∙ c.loop-number.invariant.step);
  forest = ap (λ (p : Page). p.forest) c.in_ok-log.ensures.page ∙ (c.drop_first.ensures.forest ∙ c.loop-number.invariant.forest);
}
