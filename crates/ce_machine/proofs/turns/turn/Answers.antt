use Rattle.std.proofs.Common.{ap, refl, subst}
use Rattle.frame_stack.specs.Frames.{waiting_of}
use Rattle.ce_frames.specs.Turns.{turn}
use Rattle.frame_stack.specs.Sessions.{session}
use Rattle.frame_stack.specs.Stacked.{Stacked, below_top, frames_of}
use Rattle.ce_machine.specs.Bodies.{frame_on_top}
use Rattle.ce_outcomes.specs.Placed.{Lasts}
use Rattle.ce_outcomes.specs.Turns.{Turns, end_of}
use Rattle.ce_machine.proofs.BodyLaws.{popped_body}
use Rattle.ce_machine.proofs.LoopLaws.{turned_rest, turned_left}
use Rattle.ce_machine.proofs.PlacedLaws.{body_placed, topmost_placed, turned_placed}
use Rattle.ce_drains.proofs.SessionLaws.{session_is}
use Rattle.ce_outcomes.proofs.TurnLaws.{turns_as}
use Rattle.ce_machine.proofs.turns.turn.Goals as goal

-- a body

body_turns : (c : goal.In_ok-now-in-None)
    → Turns (below_top (frames_of c.args.stack.now)) (frames_of c.resume_body.new.stack) c.in_ok-now-in-None.now
    (session c.resume_body.new.stack c.resume_body.new.state)
    (turn (frame_on_top c.args.stack.now) (end_of c.args.end) (session c.args.stack.now c.args.state.now))
body_turns c =
    subst (λ (x : Stacked). Turns (below_top (frames_of x)) (frames_of c.resume_body.new.stack) c.in_ok-now-in-None.now
    (session c.resume_body.new.stack c.resume_body.new.state) (turn (frame_on_top x) (end_of c.args.end) (session x c.args.state.now)))
    c.in-None.ensures.frames c.in_ok-now-in-None.ensures.turn

pub returns-in_ok-now-in-None-clause-rest : goal.returns-in_ok-now-in-None-clause-rest
returns-in_ok-now-in-None-clause-rest c =
    turned_rest c.args.stack.now c.resume_body.new.stack (below_top (frames_of c.args.stack.now))
    (frame_on_top c.args.stack.now) c.args.end c.in_ok-now-in-None.now (session c.args.stack.now c.args.state.now)
    (session c.resume_body.new.stack c.resume_body.new.state) (popped_body c.args.stack.now (c.in-None.ensures.body c.requires.some)) (body_turns c)

pub returns-in_ok-now-in-None-clause-work : goal.returns-in_ok-now-in-None-clause-work
returns-in_ok-now-in-None-clause-work c =
    turned_left c.args.stack.now c.resume_body.new.stack (below_top (frames_of c.args.stack.now))
    (frame_on_top c.args.stack.now) c.args.end c.in_ok-now-in-None.now (session c.args.stack.now c.args.state.now)
    (session c.resume_body.new.stack c.resume_body.new.state) (popped_body c.args.stack.now (c.in-None.ensures.body c.requires.some)) (body_turns c)

pub returns-in_ok-now-in-None-clause-placed : goal.returns-in_ok-now-in-None-clause-placed
returns-in_ok-now-in-None-clause-placed c =
    body_placed c.args.stack.now (frames_of c.resume_body.new.stack) (end_of c.args.end) c.in_ok-now-in-None.now c.args.state.now.page.forest
    (session c.resume_body.new.stack c.resume_body.new.state)
    (turn (frame_on_top c.args.stack.now) (end_of c.args.end) (session c.args.stack.now c.args.state.now)) (c.in-None.ensures.body c.requires.some)
    (body_turns c)
    (subst (λ (x : Stacked). Lasts c.args.state.now.page.forest (turn (frame_on_top x) (end_of c.args.end) (session x c.args.state.now)))
    c.in-None.ensures.frames c.in_ok-now-in-None.ensures.lasts)
    c.requires.placed

-- another frame

pub resume-requires-clause-placed : goal.resume-requires-clause-placed
resume-requires-clause-placed c =
    topmost_placed c.args.state.now.page.forest (frames_of c.args.stack.now) (frames_of c.pop.new.self) (waiting_of c.in-Some.frame)
    (end_of c.args.end) c.in-Some.ensures.frames c.requires.placed

frame_turns : (c : goal.In_ok-now-in-Some)
    → Turns (frames_of c.pop.new.self) (frames_of c.resume.new.stack) c.in_ok-now-in-Some.now (session c.resume.new.stack c.resume.new.state)
    (turn (waiting_of c.in-Some.frame) (end_of c.args.end) (session c.args.stack.now c.args.state.now))
frame_turns c =
    turns_as (frames_of c.pop.new.self) (frames_of c.resume.new.stack) c.in_ok-now-in-Some.now (session c.resume.new.stack c.resume.new.state) _ _
    (ap (turn (waiting_of c.in-Some.frame) (end_of c.args.end))
    (session_is c.args.stack.now c.pop.new.self c.args.state.now c.args.state.now c.pop.ensures.behaviours refl)) c.in_ok-now-in-Some.ensures.turn

pub returns-in_ok-now-in-Some-clause-rest : goal.returns-in_ok-now-in-Some-clause-rest
returns-in_ok-now-in-Some-clause-rest c =
    turned_rest c.args.stack.now c.resume.new.stack (frames_of c.pop.new.self) (waiting_of c.in-Some.frame) c.args.end c.in_ok-now-in-Some.now
    (session c.args.stack.now c.args.state.now) (session c.resume.new.stack c.resume.new.state) c.in-Some.ensures.frames (frame_turns c)

pub returns-in_ok-now-in-Some-clause-work : goal.returns-in_ok-now-in-Some-clause-work
returns-in_ok-now-in-Some-clause-work c =
    turned_left c.args.stack.now c.resume.new.stack (frames_of c.pop.new.self) (waiting_of c.in-Some.frame) c.args.end c.in_ok-now-in-Some.now
    (session c.args.stack.now c.args.state.now) (session c.resume.new.stack c.resume.new.state) c.in-Some.ensures.frames (frame_turns c)

pub returns-in_ok-now-in-Some-clause-placed : goal.returns-in_ok-now-in-Some-clause-placed
returns-in_ok-now-in-Some-clause-placed c =
    turned_placed (frames_of c.args.stack.now) (frames_of c.pop.new.self) (frames_of c.resume.new.stack) c.in-Some.frame c.args.end c.in_ok-now-in-Some.now
    (session c.args.stack.now c.args.state.now)
    (session c.resume.new.stack c.resume.new.state) c.tree-tree.ensures.sound.rows c.in_ok-now-in-Some.ensures.grows c.in-Some.ensures.frames
    (frame_turns c)
    c.in_ok-now-in-Some.ensures.created c.requires.placed
