use Rattle.std.proofs.Common.{ap, sym, ◌∙◌}
use Rattle.ce_algorithms.specs.Upgrade.{is_upgradable}
use Rattle.frame_stack.specs.Sessions.{session}
use Rattle.frame_stack.specs.Stacked.{frames_of}
use Rattle.ce_reactions.proofs.UpgradeLaws.{idle_turns, now_turns}
use Rattle.ce_reactions.proofs.upgrades.upgrade_turn.Goals as goal

pub returns-then-is_upgradable-clause-turn : goal.returns-then-is_upgradable-clause-turn
returns-then-is_upgradable-clause-turn c =
    now_turns (frames_of c.args.stack.now) (frames_of c.upgrade_now.new.stack) c.in_ok-now.now c.args.n c.args.d (session c.args.stack.now c.args.state.now)
    (session c.upgrade_now.new.stack c.upgrade_now.new.state)
    (ap is_upgradable (sym c.custom_state.ensures) ∙ sym c.if-is_upgradable.ensures) c.in_ok-now.ensures.turn

pub returns-clause-turn : goal.returns-clause-turn
returns-clause-turn c = idle_turns (frames_of c.args.stack.now) c.args.n c.args.d (session c.args.stack.now c.args.state.now)
    (ap is_upgradable (sym c.custom_state.ensures) ∙ sym c.if-is_upgradable.ensures)
