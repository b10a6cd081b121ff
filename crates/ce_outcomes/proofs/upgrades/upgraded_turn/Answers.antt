use Rattle.ce_algorithms.specs.declared.given.Given.TheVariants.{Nothing}
use Rattle.ce_algorithms.specs.Steps.{give, then_do}
use Rattle.ce_algorithms.specs.Upgrade.{upgrade_ends}
use Rattle.session_state.proofs.GivenLaws.{nothing_ends}
use Rattle.ce_outcomes.proofs.EndLaws.{ends_is, threw_is}
use Rattle.ce_outcomes.proofs.upgrades.upgraded_turn.Goals as goal

pub returns-in_ok-now-in-Ok-clause-turn : goal.returns-in_ok-now-in-Ok-clause-turn
returns-in_ok-now-in-Ok-clause-turn c =
    let o = upgrade_ends c.args.n c.pop_construction.new.self in
    ends_is c.args.n c.args.d c.args.constructed c.args.state.now c.pop_construction.new.self c.upgrade_ends.new.self c.in_ok-now-in-Ok.now c.in-Ok.is
    c.in_ok-pop_construction.ensures.step
    (c.in_ok-now-in-Ok.ensures.came c.upgrade_ends.new.self (then_do o (λ _. give Nothing))
    (rw c.gives_nothing-done.ensures (nothing_ends c.upgrade_ends.result c.upgrade_ends.new.self o c.upgrade_ends.ensures.step)))

pub returns-in_ok-upgrade_threw-in-Err-clause-turn : goal.returns-in_ok-upgrade_threw-in-Err-clause-turn
returns-in_ok-upgrade_threw-in-Err-clause-turn c =
    threw_is c.args.n c.args.d c.args.constructed c.in-Err.f c.args.state.now c.pop_construction.new.self c.upgrade_threw.new.self c.in-Err.is
    c.in_ok-pop_construction.ensures.step (c.in_ok-upgrade_threw-in-Err.ensures.step c.in-Err.f)
