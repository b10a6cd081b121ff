use Rattle.std.proofs.Common.{ap}
use Rattle.ce_algorithms.specs.State.{on_page}
use Rattle.ce_algorithms.specs.Upgrade.{begin_upgrade}
use Rattle.ce_frames.proofs.BlindSteps.{blind_on_page}
use Rattle.frame_stack.specs.Sessions.{session}
use Rattle.frame_stack.specs.Stacked.{frames_of}
use Rattle.ce_reactions.proofs.SessionLaws.{goes_whole}
use Rattle.ce_reactions.proofs.UpgradeLaws.{begun_turns}
use Rattle.ce_reactions.proofs.upgrades.upgrade_now.Goals as goal

pub returns-in_ok-now-in-Ok-clause-turn : goal.returns-in_ok-now-in-Ok-clause-turn
returns-in_ok-now-in-Ok-clause-turn c =
    begun_turns c.args.n c.args.d (session c.args.stack.now c.args.state.now) (session c.args.stack.now c.log.new.self)
    (ap (session c.args.stack.now) c.in_ok-log.ensures.logged) (frames_of c.args.stack.now) (frames_of c.push.new.self)
    (frames_of c.construct_for.new.stack) c.in_ok-now-in-Ok.now (session c.push.new.self c.begin_upgrade.new.self)
    (session c.construct_for.new.stack c.construct_for.new.state)
    (goes_whole (on_page (begin_upgrade c.args.n c.args.d)) c.args.stack.now c.push.new.self tt c.log.new.self c.begin_upgrade.new.self
    (blind_on_page (begin_upgrade c.args.n c.args.d)) c.in_ok-push-in-Ok.ensures.behaviours c.in-Ok.ensures.step)
    c.in_ok-push-in-Ok.ensures.frames c.in_ok-now-in-Ok.ensures.turn
