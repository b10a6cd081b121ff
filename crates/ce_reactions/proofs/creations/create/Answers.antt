use Rattle.std.proofs.Common.{refl}
use Rattle.std.specs.Prelude.{◌≡◌}
use Rattle.ce_algorithms.specs.CreateLater.{make_undefined}
use Rattle.ce_algorithms.specs.Perform.{gives_node}
use Rattle.ce_algorithms.specs.State.{on_page}
use Rattle.ce_frames.specs.ConstructTurns.{create_turn}
use Rattle.frame_stack.specs.Sessions.{session}
use Rattle.frame_stack.specs.Stacked.{frames_of}
use Rattle.ce_outcomes.proofs.GivenLaws.{node_ends, node_there}
use Rattle.ce_outcomes.specs.Turns.{Turns, came_in}
use Rattle.ce_reactions.proofs.CreateLaws.{none_at, none_lasts, none_turns, some_lasts, some_turns}
use Rattle.ce_reactions.proofs.SessionLaws.{lifted, lifted_lasts, lifted_paired}
use Rattle.ce_reactions.proofs.creations.create.Goals as goal

-- there is no definition

came : (c : goal.In_ok-now-in-None)
    → came_in c.in_ok-now-in-None.now c.create_undefined.new.state
    ≡ gives_node (on_page (make_undefined c.args.local c.args.is c.args.document)) c.args.state.now
came c =
    let step = on_page (make_undefined c.args.local c.args.is c.args.document) in
    let ends = node_ends c.create_undefined.result c.create_undefined.new.state (step c.args.state.now) c.create_undefined.ensures.step in
    c.in_ok-now-in-None.ensures.came c.create_undefined.new.state (gives_node step c.args.state.now) (rw c.gives_node-made.ensures ends)

plain : (c : goal.In_ok-now-in-None)
    → Turns (frames_of c.args.stack.now) (frames_of c.args.stack.now) c.in_ok-now-in-None.now c.create_undefined.new.state
    (create_turn c.args.local c.args.is c.args.document c.args.state.now)
plain c = none_turns (frames_of c.args.stack.now) c.in_ok-now-in-None.now c.args.local c.args.is c.args.document c.args.state.now c.create_undefined.new.state
    c.in-None.ensures (came c)

pub returns-in_ok-now-in-None-clause-turn : goal.returns-in_ok-now-in-None-clause-turn
returns-in_ok-now-in-None-clause-turn c =
    lifted (create_turn c.args.local c.args.is c.args.document) c.args.stack.now c.args.stack.now (frames_of c.args.stack.now)
    (frames_of c.args.stack.now) c.in_ok-now-in-None.now c.args.state.now c.create_undefined.new.state
    (none_at c.args.local c.args.is c.args.document c.args.state.now c.in-None.ensures) (plain c) refl

pub returns-in_ok-now-in-None-clause-paired : goal.returns-in_ok-now-in-None-clause-paired
returns-in_ok-now-in-None-clause-paired c =
    lifted_paired (create_turn c.args.local c.args.is c.args.document) c.args.stack.now c.args.stack.now (frames_of c.args.stack.now)
    (frames_of c.args.stack.now) c.in_ok-now-in-None.now c.args.state.now c.create_undefined.new.state
    (none_at c.args.local c.args.is c.args.document c.args.state.now c.in-None.ensures) (plain c) refl c.requires.paired

pub returns-in_ok-now-in-None-clause-lasts : goal.returns-in_ok-now-in-None-clause-lasts
returns-in_ok-now-in-None-clause-lasts c =
    lifted_lasts (create_turn c.args.local c.args.is c.args.document) c.args.stack.now c.args.state.now.page.forest c.args.state.now
    (none_at c.args.local c.args.is c.args.document c.args.state.now c.in-None.ensures)
    (none_lasts c.args.state.now.page.forest c.in_ok-now-in-None.now c.args.local c.args.is c.args.document c.args.state.now c.create_undefined.new.state
    c.in-None.ensures (came c) c.create_undefined.ensures.grows
    (c.in_ok-now-in-None.ensures.there c.create_undefined.new.state.page.forest
    (rw c.gives_node-made.ensures (node_there c.create_undefined.result c.create_undefined.new.state.page.forest c.create_undefined.ensures.made))))

-- there is one

pub returns-in_ok-now-in-Some-clause-turn : goal.returns-in_ok-now-in-Some-clause-turn
returns-in_ok-now-in-Some-clause-turn c =
    some_turns (frames_of c.args.stack.now) (frames_of c.create_found.new.stack) c.in_ok-now-in-Some.now c.args.local c.args.is c.args.document c.in-Some.d
    (session c.args.stack.now c.args.state.now)
    (session c.create_found.new.stack c.create_found.new.state) c.in-Some.ensures c.in_ok-now-in-Some.ensures.turn

pub returns-in_ok-now-in-Some-clause-lasts : goal.returns-in_ok-now-in-Some-clause-lasts
returns-in_ok-now-in-Some-clause-lasts c =
    some_lasts c.args.state.now.page.forest c.args.local c.args.is c.args.document c.in-Some.d
    (session c.args.stack.now c.args.state.now) c.in-Some.ensures c.in_ok-now-in-Some.ensures.lasts
