use Rattle.std.proofs.Common.{ap}
use Rattle.rule_lines.specs.Acts.{act_of}
use Rattle.behaviours.specs.Next.{stop_of}
use Rattle.behaviours.specs.Resume.{Doing, OutOfFuel, Returning, Throwing}
use Rattle.ce_algorithms.specs.State.{State}
use Rattle.std.specs.Prelude.{Some}
use Rattle.frame_stack.specs.Sessions.{session}
use Rattle.frame_stack.specs.Stacked.{below_top, frames_of}
use Rattle.ce_machine.specs.Bodies.{acting_turn, stopped_turn}
use Rattle.ce_machine.proofs.BodyLaws.{acts_as, always, none_goes_on_as, some_lasts_as, some_turns_as, stopped, stops_goes_on, stops_spends, stops_lasts}
use Rattle.ce_machine.proofs.BodyLaws.{stops_turns, this_there}
use Rattle.ce_machine.proofs.stops.go_on.Goals as goal

pub spent-requires-clause-body : goal.spent-requires-clause-body
spent-requires-clause-body c =
    (stopped c.args.stack.now c.resume.new.stack c.args.state.now c.resume.new.self c.in-FuelSpent.is c.in_ok-resume.ensures.resumed c.requires.paired
    c.in_ok-resume.ensures.rest).body

pub thrown-requires-clause-body : goal.thrown-requires-clause-body
thrown-requires-clause-body c =
    (stopped c.args.stack.now c.resume.new.stack c.args.state.now c.resume.new.self c.in-Throw.is c.in_ok-resume.ensures.resumed c.requires.paired
    c.in_ok-resume.ensures.rest).body

pub returned-requires-clause-body : goal.returned-requires-clause-body
returned-requires-clause-body c =
    (stopped c.args.stack.now c.resume.new.stack c.args.state.now c.resume.new.self c.in-Return.is c.in_ok-resume.ensures.resumed c.requires.paired
    c.in_ok-resume.ensures.rest).body

pub returned-requires-clause-there : goal.returned-requires-clause-there
returned-requires-clause-there c =
    let at = stopped c.args.stack.now c.resume.new.stack c.args.state.now c.resume.new.self c.in-Return.is c.in_ok-resume.ensures.resumed c.requires.paired
    c.in_ok-resume.ensures.rest in
    this_there c.args.stack.now c.resume.new.stack c.args.state.now c.resume.new.self at.this
    (ap (λ (x : State). x.page.forest) c.in_ok-resume.ensures.rest) c.requires.there

pub act-requires-clause-body : goal.act-requires-clause-body
act-requires-clause-body c =
    (stopped c.args.stack.now c.resume.new.stack c.args.state.now c.resume.new.self c.in-Do.is c.in_ok-resume.ensures.resumed c.requires.paired
    c.in_ok-resume.ensures.rest).body

pub act-requires-clause-there : goal.act-requires-clause-there
act-requires-clause-there c =
    let at = stopped c.args.stack.now c.resume.new.stack c.args.state.now c.resume.new.self c.in-Do.is c.in_ok-resume.ensures.resumed c.requires.paired
    c.in_ok-resume.ensures.rest in
    this_there c.args.stack.now c.resume.new.stack c.args.state.now c.resume.new.self at.this
    (ap (λ (x : State). x.page.forest) c.in_ok-resume.ensures.rest) c.requires.there

pub returns-in_ok-now-in-FuelSpent-clause-turn : goal.returns-in_ok-now-in-FuelSpent-clause-turn
returns-in_ok-now-in-FuelSpent-clause-turn c =
    let at = stopped c.args.stack.now c.resume.new.stack c.args.state.now c.resume.new.self c.in-FuelSpent.is c.in_ok-resume.ensures.resumed c.requires.paired
    c.in_ok-resume.ensures.rest in
    stops_turns c.args.stack.now c.resume.new.stack c.args.state.now c.resume.new.self (session c.spent.new.stack c.spent.new.state) OutOfFuel
    (frames_of c.spent.new.stack) (Some c.in_ok-now-in-FuelSpent.now) at c.in_ok-now-in-FuelSpent.ensures.turn

pub returns-in_ok-now-in-FuelSpent-clause-lasts : goal.returns-in_ok-now-in-FuelSpent-clause-lasts
returns-in_ok-now-in-FuelSpent-clause-lasts c =
    let at = stopped c.args.stack.now c.resume.new.stack c.args.state.now c.resume.new.self c.in-FuelSpent.is c.in_ok-resume.ensures.resumed c.requires.paired
    c.in_ok-resume.ensures.rest in
    stops_lasts c.args.stack.now c.resume.new.stack c.args.state.now c.resume.new.self OutOfFuel
    (Some c.in_ok-now-in-FuelSpent.now) at c.in_ok-resume.ensures.rest c.in_ok-now-in-FuelSpent.ensures.lasts

pub returns-in_ok-o-in-Throw-clause-turn : goal.returns-in_ok-o-in-Throw-clause-turn
returns-in_ok-o-in-Throw-clause-turn c =
    let at = stopped c.args.stack.now c.resume.new.stack c.args.state.now c.resume.new.self c.in-Throw.is c.in_ok-resume.ensures.resumed c.requires.paired
    c.in_ok-resume.ensures.rest in
    stops_turns c.args.stack.now c.resume.new.stack c.args.state.now c.resume.new.self (session c.thrown.new.stack c.thrown.new.state)
    (Throwing c.in-Throw.fault c.in-Throw.guarded) (frames_of c.thrown.new.stack) c.in_ok-o-in-Throw.o at c.in_ok-o-in-Throw.ensures.turn

pub returns-in_ok-o-in-Throw-clause-lasts : goal.returns-in_ok-o-in-Throw-clause-lasts
returns-in_ok-o-in-Throw-clause-lasts c =
    let at = stopped c.args.stack.now c.resume.new.stack c.args.state.now c.resume.new.self c.in-Throw.is c.in_ok-resume.ensures.resumed c.requires.paired
    c.in_ok-resume.ensures.rest in
    stops_lasts c.args.stack.now c.resume.new.stack c.args.state.now c.resume.new.self
    (Throwing c.in-Throw.fault c.in-Throw.guarded) c.in_ok-o-in-Throw.o at c.in_ok-resume.ensures.rest c.in_ok-o-in-Throw.ensures.lasts

pub returns-in_ok-o-in-Throw-clause-on : goal.returns-in_ok-o-in-Throw-clause-on
returns-in_ok-o-in-Throw-clause-on c =
    let at = stopped c.args.stack.now c.resume.new.stack c.args.state.now c.resume.new.self c.in-Throw.is c.in_ok-resume.ensures.resumed c.requires.paired
    c.in_ok-resume.ensures.rest in
    stops_goes_on c.args.stack.now c.resume.new.stack c.thrown.new.stack c.args.state.now c.resume.new.self c.thrown.new.state
    (Throwing c.in-Throw.fault c.in-Throw.guarded) c.in_ok-o-in-Throw.o at c.in_ok-resume.ensures.rest
    (stops_spends c.args.state.now c.resume.new.self c.in_ok-resume.field-0 (Throwing c.in-Throw.fault c.in-Throw.guarded) c.in_ok-o-in-Throw.o
    (ap stop_of c.in-Throw.is) c.in_ok-resume.ensures.spent c.in_ok-o-in-Throw.ensures.guarded) c.in_ok-o-in-Throw.ensures.on

pub returns-in_ok-o-in-Return-clause-turn : goal.returns-in_ok-o-in-Return-clause-turn
returns-in_ok-o-in-Return-clause-turn c =
    let at = stopped c.args.stack.now c.resume.new.stack c.args.state.now c.resume.new.self c.in-Return.is c.in_ok-resume.ensures.resumed c.requires.paired
    c.in_ok-resume.ensures.rest in
    stops_turns c.args.stack.now c.resume.new.stack c.args.state.now c.resume.new.self (session c.returned.new.stack c.returned.new.state)
    (Returning c.in-Return.value c.in-Return.guarded) (frames_of c.returned.new.stack) c.in_ok-o-in-Return.o at c.in_ok-o-in-Return.ensures.turn

pub returns-in_ok-o-in-Return-clause-lasts : goal.returns-in_ok-o-in-Return-clause-lasts
returns-in_ok-o-in-Return-clause-lasts c =
    let at = stopped c.args.stack.now c.resume.new.stack c.args.state.now c.resume.new.self c.in-Return.is c.in_ok-resume.ensures.resumed c.requires.paired
    c.in_ok-resume.ensures.rest in
    stops_lasts c.args.stack.now c.resume.new.stack c.args.state.now c.resume.new.self
    (Returning c.in-Return.value c.in-Return.guarded) c.in_ok-o-in-Return.o at c.in_ok-resume.ensures.rest c.in_ok-o-in-Return.ensures.lasts

pub returns-in_ok-o-in-Return-clause-on : goal.returns-in_ok-o-in-Return-clause-on
returns-in_ok-o-in-Return-clause-on c =
    let at = stopped c.args.stack.now c.resume.new.stack c.args.state.now c.resume.new.self c.in-Return.is c.in_ok-resume.ensures.resumed c.requires.paired
    c.in_ok-resume.ensures.rest in
    stops_goes_on c.args.stack.now c.resume.new.stack c.returned.new.stack c.args.state.now c.resume.new.self c.returned.new.state
    (Returning c.in-Return.value c.in-Return.guarded) c.in_ok-o-in-Return.o at c.in_ok-resume.ensures.rest
    (stops_spends c.args.state.now c.resume.new.self c.in_ok-resume.field-0 (Returning c.in-Return.value c.in-Return.guarded) c.in_ok-o-in-Return.o
    (ap stop_of c.in-Return.is) c.in_ok-resume.ensures.spent c.in_ok-o-in-Return.ensures.guarded) c.in_ok-o-in-Return.ensures.on

pub returns-in_ok-o-in-Do-clause-turn : goal.returns-in_ok-o-in-Do-clause-turn
returns-in_ok-o-in-Do-clause-turn c =
    let at = stopped c.args.stack.now c.resume.new.stack c.args.state.now c.resume.new.self c.in-Do.is c.in_ok-resume.ensures.resumed c.requires.paired
    c.in_ok-resume.ensures.rest in
    stops_turns c.args.stack.now c.resume.new.stack c.args.state.now c.resume.new.self (session c.act.new.stack c.act.new.state)
    (Doing (act_of c.in-Do.action) c.in-Do.guarded) (frames_of c.act.new.stack) c.in_ok-o-in-Do.o at
    (some_turns_as c.in_ok-o-in-Do.o (below_top (frames_of c.resume.new.stack)) (frames_of c.act.new.stack) (session c.act.new.stack c.act.new.state) _ _
    (acts_as c.resume.new.stack at.body (act_of c.in-Do.action) c.in-Do.guarded (session c.resume.new.stack c.resume.new.self) at.guarded)
    c.in_ok-o-in-Do.ensures.turn)

pub returns-in_ok-o-in-Do-clause-lasts : goal.returns-in_ok-o-in-Do-clause-lasts
returns-in_ok-o-in-Do-clause-lasts c =
    let at = stopped c.args.stack.now c.resume.new.stack c.args.state.now c.resume.new.self c.in-Do.is c.in_ok-resume.ensures.resumed c.requires.paired
    c.in_ok-resume.ensures.rest in
    stops_lasts c.args.stack.now c.resume.new.stack c.args.state.now c.resume.new.self
    (Doing (act_of c.in-Do.action) c.in-Do.guarded) c.in_ok-o-in-Do.o at c.in_ok-resume.ensures.rest
    (some_lasts_as c.in_ok-o-in-Do.o c.resume.new.self.page.forest _ _
    (acts_as c.resume.new.stack at.body (act_of c.in-Do.action) c.in-Do.guarded (session c.resume.new.stack c.resume.new.self) at.guarded)
    c.in_ok-o-in-Do.ensures.lasts)

pub returns-in_ok-o-in-Do-clause-on : goal.returns-in_ok-o-in-Do-clause-on
returns-in_ok-o-in-Do-clause-on c =
    let at = stopped c.args.stack.now c.resume.new.stack c.args.state.now c.resume.new.self c.in-Do.is c.in_ok-resume.ensures.resumed c.requires.paired
    c.in_ok-resume.ensures.rest in
    stops_goes_on c.args.stack.now c.resume.new.stack c.act.new.stack c.args.state.now c.resume.new.self c.act.new.state
    (Doing (act_of c.in-Do.action) c.in-Do.guarded) c.in_ok-o-in-Do.o at c.in_ok-resume.ensures.rest
    (stops_spends c.args.state.now c.resume.new.self c.in_ok-resume.field-0 (Doing (act_of c.in-Do.action) c.in-Do.guarded) c.in_ok-o-in-Do.o
    (ap stop_of c.in-Do.is) c.in_ok-resume.ensures.spent (always c.in_ok-o-in-Do.o))
    (none_goes_on_as c.in_ok-o-in-Do.o c.resume.new.stack c.act.new.stack c.resume.new.self c.act.new.state (acting_turn (act_of c.in-Do.action))
    (stopped_turn (Doing (act_of c.in-Do.action) c.in-Do.guarded))
    (acts_as c.resume.new.stack at.body (act_of c.in-Do.action) c.in-Do.guarded (session c.resume.new.stack c.resume.new.self) at.guarded)
    c.in_ok-o-in-Do.ensures.on)
