use Rattle.std.specs.Prelude.{◌≡◌}
use Rattle.ce_algorithms.specs.Construction.{base_call}
use Rattle.ce_algorithms.specs.State.{on_page}
use Rattle.ce_algorithms.specs.Steps.{Spent}
use Rattle.rule_lines.specs.Acts.{Super}
use Rattle.behaviours.specs.Resume.{Throwing}
use Rattle.frame_stack.specs.Sessions.{session}
use Rattle.frame_stack.specs.Stacked.{below_top, frames_of}
use Rattle.ce_machine.specs.Bodies.{acting_turn, based_turn, frame_on_top, stopped_turn}
use Rattle.ce_machine.proofs.BaseLaws.{base_spent_lasts, base_spent_turns, base_throws, based_is, fuel_spent, refused_throws}
use Rattle.ce_machine.proofs.BodyLaws.{none_goes_on_from, some_lasts_from, some_turns_as}
use Rattle.ce_machine.proofs.stops.call_base.Goals as goal

-- it has given a node

pub returns-in_ok-o-in-Ok-clause-turn : goal.returns-in_ok-o-in-Ok-clause-turn
returns-in_ok-o-in-Ok-clause-turn c =
    some_turns_as c.in_ok-o-in-Ok.o (below_top (frames_of c.args.stack.now)) (frames_of c.take_this.new.stack)
    (session c.take_this.new.stack c.take_this.new.state) _ _
    (based_is c.args.stack.now c.requires.body c.in-Some.class c.args.state.now c.in-Some.ensures c.in-Ok.n c.base_call.new.self c.in-Ok.ensures.step)
    c.in_ok-o-in-Ok.ensures.turn

pub returns-in_ok-o-in-Ok-clause-lasts : goal.returns-in_ok-o-in-Ok-clause-lasts
returns-in_ok-o-in-Ok-clause-lasts c =
    some_lasts_from c.in_ok-o-in-Ok.o c.args.state.now.page.forest c.base_call.new.self.page.forest _ _
    (based_is c.args.stack.now c.requires.body c.in-Some.class c.args.state.now c.in-Some.ensures c.in-Ok.n c.base_call.new.self c.in-Ok.ensures.step)
    c.base_call.ensures.grows c.in_ok-o-in-Ok.ensures.lasts

pub returns-in_ok-o-in-Ok-clause-on : goal.returns-in_ok-o-in-Ok-clause-on
returns-in_ok-o-in-Ok-clause-on c =
    none_goes_on_from c.in_ok-o-in-Ok.o c.args.stack.now c.take_this.new.stack c.args.state.now c.base_call.new.self c.take_this.new.state
    (based_turn c.in-Ok.n) (acting_turn Super)
    (based_is c.args.stack.now c.requires.body c.in-Some.class c.args.state.now c.in-Some.ensures c.in-Ok.n c.base_call.new.self c.in-Ok.ensures.step)
    c.base_call.ensures.grows c.base_call.ensures.less c.in_ok-o-in-Ok.ensures.on

-- it has thrown

throws_is : (c : goal.In_ok-o-in-Err-Refused)
    → stopped_turn (Throwing c.in-Err-Refused.f c.is_guarded-guarded.result) (frame_on_top c.args.stack.now) (session c.args.stack.now c.base_call.new.self)
    ≡ acting_turn Super (frame_on_top c.args.stack.now) (session c.args.stack.now c.args.state.now)
throws_is c =
    base_throws c.args.stack.now c.requires.body c.in-Some.class c.args.state.now c.in-Some.ensures c.in-Err-Refused.f c.is_guarded-guarded.result
    c.base_call.new.self c.is_guarded-guarded.ensures
    (refused_throws c.in-Err-Refused.field-0 c.in-Err-Refused.f c.base_call.new.self
    (on_page (base_call c.in-Some.class) c.args.state.now) c.in-Err-Refused.field-0-is c.in-Err-Refused.ensures.step)

pub returns-in_ok-o-in-Err-Refused-clause-turn : goal.returns-in_ok-o-in-Err-Refused-clause-turn
returns-in_ok-o-in-Err-Refused-clause-turn c =
    some_turns_as c.in_ok-o-in-Err-Refused.o (below_top (frames_of c.args.stack.now)) (frames_of c.thrown.new.stack)
    (session c.thrown.new.stack c.thrown.new.state) _ _ (throws_is c) c.in_ok-o-in-Err-Refused.ensures.turn

pub returns-in_ok-o-in-Err-Refused-clause-lasts : goal.returns-in_ok-o-in-Err-Refused-clause-lasts
returns-in_ok-o-in-Err-Refused-clause-lasts c =
    some_lasts_from c.in_ok-o-in-Err-Refused.o c.args.state.now.page.forest c.base_call.new.self.page.forest _ _
    (throws_is c) c.base_call.ensures.grows c.in_ok-o-in-Err-Refused.ensures.lasts

pub returns-in_ok-o-in-Err-Refused-clause-on : goal.returns-in_ok-o-in-Err-Refused-clause-on
returns-in_ok-o-in-Err-Refused-clause-on c =
    none_goes_on_from c.in_ok-o-in-Err-Refused.o c.args.stack.now c.thrown.new.stack c.args.state.now c.base_call.new.self c.thrown.new.state
    (stopped_turn (Throwing c.in-Err-Refused.f c.is_guarded-guarded.result)) (acting_turn Super) (throws_is c)
    c.base_call.ensures.grows c.base_call.ensures.less c.in_ok-o-in-Err-Refused.ensures.on

-- the fuel was spent in it

spent_step : (c : goal.After-end) → Spent c.base_call.new.self ≡ on_page (base_call c.in-Some.class) c.args.state.now
spent_step c = fuel_spent c.in-Err-FuelSpent.field-0 c.base_call.new.self
    (on_page (base_call c.in-Some.class) c.args.state.now) c.in-Err-FuelSpent.field-0-is c.in-Err-FuelSpent.ensures.step

pub returns-in-Err-FuelSpent-clause-turn : goal.returns-in-Err-FuelSpent-clause-turn
returns-in-Err-FuelSpent-clause-turn c =
    base_spent_turns c.args.stack.now c.requires.body c.in-Some.class c.args.state.now c.in-Some.ensures c.end.new.self c.base_call.new.self
    (spent_step c) c.end.ensures.frames c.end.ensures.behaviours

pub returns-in-Err-FuelSpent-clause-lasts : goal.returns-in-Err-FuelSpent-clause-lasts
returns-in-Err-FuelSpent-clause-lasts c =
    base_spent_lasts c.args.stack.now c.requires.body c.in-Some.class c.args.state.now c.in-Some.ensures c.base_call.new.self
    (spent_step c) c.base_call.ensures.grows
