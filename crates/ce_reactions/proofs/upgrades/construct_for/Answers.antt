use Rattle.std.proofs.Common.{refl, sym, ◌∙◌}
use Rattle.ce_base.specs.declared.custom_state.CustomState.TheVariants.{Precustomized}
use Rattle.ce_algorithms.specs.Page.{with_state}
use Rattle.ce_algorithms.specs.State.{change_page}
use Rattle.ce_frames.proofs.BlindSteps.{blind_change_page}
use Rattle.frame_stack.specs.Sessions.{session}
use Rattle.frame_stack.specs.Stacked.{frames_of}
use Rattle.ce_reactions.proofs.SessionLaws.{goes_whole}
use Rattle.ce_reactions.proofs.UpgradeLaws.{constructs_turns, refused_turns}
use Rattle.ce_reactions.proofs.upgrades.construct_for.Goals as goal

pub returns-then-is_shadow_refused-clause-turn : goal.returns-then-is_shadow_refused-clause-turn
returns-then-is_shadow_refused-clause-turn c =
    refused_turns (frames_of c.args.stack.now) c.args.n c.args.d (session c.args.stack.now c.args.state.now)
    (sym c.is_shadow_refused.ensures ∙ c.if-is_shadow_refused.true)

pub returns-clause-turn : goal.returns-clause-turn
returns-clause-turn c =
    constructs_turns c.args.n c.args.d c.class_of-class.result (session c.args.stack.now c.args.state.now) (session c.args.stack.now c.set_state.new.self)
    (sym c.is_shadow_refused.ensures ∙ c.if-is_shadow_refused.false)
    (goes_whole (change_page (with_state c.args.n Precustomized)) c.args.stack.now c.args.stack.now tt c.args.state.now c.set_state.new.self
    (blind_change_page (with_state c.args.n Precustomized)) refl c.set_state.ensures.step) c.class_of-class.ensures
    (frames_of c.args.stack.now) (frames_of c.construct.new.stack) c.in_ok-now.now
    (session c.construct.new.stack c.construct.new.state) c.in_ok-now.ensures.turn
