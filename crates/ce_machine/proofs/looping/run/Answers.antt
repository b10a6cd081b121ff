use Rattle.std.proofs.Common.{sym, ◌∙◌, arith}
use Rattle.std.proofs.lemmas.Result.{err_from_is_err_and}
use Rattle.ce_base.proofs.Counts.{unrisen}
use Rattle.ce_algorithms.proofs.Writing.{did_front}
use Rattle.frame_stack.specs.Sessions.{session}
use Rattle.frame_stack.specs.Stacked.{frames_of}
use Rattle.frame_stack.proofs.PushLaws.{no_frames as none_kept}
use Rattle.ce_outcomes.specs.Turns.{came_in}
use Rattle.ce_machine.proofs.LoopLaws.{flushed, flushed_part, turned_did, no_frames, ended_did, left_forgotten, less_of}
use Rattle.ce_machine.proofs.looping.run.Goals as goal

pub returns-in_err-flush-clause-part : goal.returns-in_err-flush-clause-part
returns-in_err-flush-clause-part g c =
    let p = err_from_is_err_and c.from_residual.result c.from_residual.ensures.1 in
    rw p.1 (flushed_part (g.K.Sink.held c.flush.new.sink) c.loop-state.stack c.loop-state.now c.loop-state.state c.loop-state.invariant.did
    c.in_err-flush.ensures.part)

pub returns-in_err-now-clause-part : goal.returns-in_err-now-clause-part
returns-in_err-now-clause-part g c =
    let p = err_from_is_err_and c.from_residual-in_err-now.result c.from_residual-in_err-now.ensures.1 in
    rw p.1 (did_front (flushed c.loop-state.stack c.loop-state.now c.loop-state.state c.flush.new.self c.loop-state.invariant.did c.in_ok-flush.ensures.written
    c.in_ok-flush.ensures.state))

pub loop-state-smaller : goal.loop-state-smaller
loop-state-smaller g c = less_of _ _ _ c.in_ok-now.ensures.work
    (left_forgotten c.loop-state.stack c.loop-state.state c.flush.new.self c.in_ok-flush.ensures.state)

pub loop-state-preserved : goal.loop-state-preserved
loop-state-preserved g c = record {
  did = turned_did (flushed c.loop-state.stack c.loop-state.now c.loop-state.state c.flush.new.self c.loop-state.invariant.did c.in_ok-flush.ensures.written
      c.in_ok-flush.ensures.state) c.in_ok-now.ensures.rest;
  paired = c.in_ok-now.ensures.paired;
  placed = c.in_ok-now.ensures.placed;
  later = omega arith;
  told = let same = unrisen _ _ _ _ c.in_ok-flush.ensures.told in let kept = c.loop-state.invariant.told in omega (arith, same, kept);
  home = c.in_ok-flush.ensures.home ∙ c.loop-state.invariant.home;
  below = omega arith;
}

pub returns-in_err-flush_settled-clause-part : goal.returns-in_err-flush_settled-clause-part
returns-in_err-flush_settled-clause-part g c =
    let p = err_from_is_err_and c.from_residual-in_err-flush_settled.result c.from_residual-in_err-flush_settled.ensures.1 in
    rw p.1 (flushed_part (g.K.Sink.held c.flush_settled.new.sink) c.loop-state.stack c.loop-state.now c.loop-state.state c.loop-state.invariant.did
    c.in_err-flush_settled.ensures.part)

pub returns-clause-ran : goal.returns-clause-ran
returns-clause-ran g c =
    ended_did c.loop-state.stack (came_in c.loop-state.now (session c.loop-state.stack c.flush_settled.new.state))
    (no_frames (frames_of c.loop-state.stack) (sym c.is_empty.ensures.empty ∙ c.loop-state-test.false))
    (flushed c.loop-state.stack c.loop-state.now c.loop-state.state c.flush_settled.new.state c.loop-state.invariant.did c.in_ok-flush_settled.ensures.written
    c.in_ok-flush_settled.ensures.state)

pub returns-clause-rest : goal.returns-clause-rest
returns-clause-rest g c = none_kept c.loop-state.stack (no_frames (frames_of c.loop-state.stack) (sym c.is_empty.ensures.empty ∙ c.loop-state-test.false))
