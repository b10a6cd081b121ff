use Rattle.std.proofs.Common.{ap, subst, sym, ◌∙◌}
use Rattle.std.specs.Prelude.{OnOk}
use Rattle.ce_algorithms.specs.declared.deed.Deed.{Deed}
use Rattle.ce_frames.specs.OperateTurns.{deed_turn}
use Rattle.ce_frames.specs.Turned.{Turned}
use Rattle.frame_stack.specs.Sessions.{session}
use Rattle.frame_stack.specs.Stacked.{frames_of}
use Rattle.ce_outcomes.specs.Placed.{Lasts}
use Rattle.ce_machine.proofs.OperateLaws.{new_is}
use Rattle.ce_machine.proofs.TurnLaws.{ok_turns_as}
use Rattle.ce_machine.proofs.react.deed_turn.Goals as goal

pub returns-in-New-clause-turn : goal.returns-in-New-clause-turn
returns-in-New-clause-turn c =
    ok_turns_as c.construct.result (frames_of c.args.stack.now) (frames_of c.construct.new.stack) (session c.construct.new.stack c.construct.new.state) _ _
    (new_is c.in-New.class (session c.args.stack.now c.args.state.now)
    ∙ ap (λ (d : Deed). deed_turn d (session c.args.stack.now c.args.state.now)) (sym c.in-New.is)) c.construct.ensures.turn

pub returns-in-New-clause-lasts : goal.returns-in-New-clause-lasts
returns-in-New-clause-lasts c =
    subst (λ (t : Turned). OnOk c.construct.result (Lasts c.args.state.now.page.forest t))
    (new_is c.in-New.class (session c.args.stack.now c.args.state.now)
    ∙ ap (λ (d : Deed). deed_turn d (session c.args.stack.now c.args.state.now)) (sym c.in-New.is)) c.construct.ensures.lasts
