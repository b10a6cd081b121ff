use Rattle.std.proofs.Common.{sym, ◌∙◌}
use Rattle.ce_algorithms.specs.Model.{model}
use Rattle.ce_algorithms.specs.Perform.{steps}
use Rattle.frame_stack.specs.Stacked.{frames_of}
use Rattle.ce_drains.proofs.ConstructLaws.{down_lasts}
use Rattle.ce_machine.proofs.OperateLaws.{deed_lasts, react_deed_lasts, react_deed_turns, run_deed_turns, still_at}
use Rattle.ce_machine.proofs.react.still_turn.Goals as goal

pub returns-in_ok-now-clause-turn : goal.returns-in_ok-now-clause-turn
returns-in_ok-now-clause-turn c =
    react_deed_turns (frames_of c.args.stack.now) (frames_of c.react.new.stack) c.in_ok-now.now c.args.deed c.args.state.now c.react.new.state c.requires.still
    (sym c.is_reacting.ensures ∙ c.if-is_reacting.true) c.in_ok-now.ensures.turn

pub returns-in_ok-now-clause-lasts : goal.returns-in_ok-now-clause-lasts
returns-in_ok-now-clause-lasts c =
    react_deed_lasts c.args.state.now.page.forest c.args.deed c.args.state.now c.requires.still
    (sym c.is_reacting.ensures ∙ c.if-is_reacting.true) c.in_ok-now.ensures.lasts

pub returns-in_ok-now-2-clause-turn : goal.returns-in_ok-now-2-clause-turn
returns-in_ok-now-2-clause-turn c =
    let o = steps model c.args.deed c.args.state.now in
    run_deed_turns (frames_of c.args.stack.now) c.in_ok-now-2.now c.args.deed c.args.state.now c.run-ran.new.state c.requires.still
    (sym c.is_reacting.ensures ∙ c.if-is_reacting.false) (c.in_ok-now-2.ensures.came c.run-ran.new.state o c.run-ran.ensures.step)

pub returns-in_ok-now-2-clause-lasts : goal.returns-in_ok-now-2-clause-lasts
returns-in_ok-now-2-clause-lasts c =
    let o = steps model c.args.deed c.args.state.now in
    deed_lasts c.args.state.now.page.forest c.args.deed c.args.state.now c.requires.still (sym c.is_reacting.ensures ∙ c.if-is_reacting.false)
    (down_lasts c.args.state.now.page.forest c.in_ok-now-2.now c.run-ran.new.state o
    (c.in_ok-now-2.ensures.came c.run-ran.new.state o c.run-ran.ensures.step) c.run-ran.ensures.grows
    (c.in_ok-now-2.ensures.there c.run-ran.new.state.page.forest c.run-ran.ensures.there))

pub returns-in_ok-now-clause-blind : goal.returns-in_ok-now-clause-blind
returns-in_ok-now-clause-blind c = still_at c.args.deed c.args.state.now c.requires.still

pub returns-in_ok-now-2-clause-blind : goal.returns-in_ok-now-2-clause-blind
returns-in_ok-now-2-clause-blind c = still_at c.args.deed c.args.state.now c.requires.still
