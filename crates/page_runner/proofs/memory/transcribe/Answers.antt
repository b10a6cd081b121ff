use Rattle.std.proofs.Common.{Some, ap, arith}
use Rattle.page_runner.specs.Memory.{Rest}
use Rattle.page_runner.proofs.RoomLaws.{Transcribed, none_left, transcribed}
use Rattle.page_runner.specs.Ending.{end_status, script_transcript}
use Rattle.page_runner.proofs.memory.transcribe.Goals as goal

pub returns : goal.returns
returns c =
    let script = c.args.script.now in
    let source = c.run_with-status.new.source in
    let known = ap (λ (s : Rest). Some s.left) c.make-source.ensures in
    let all : Transcribed c.run_with-status.result (end_status c.args.options script) c.into_bytes.result.items
    (script_transcript c.args.options script) c.into_bytes.result.len c.args.most =
    transcribed _ _ c.make-sink.result c.run_with-status.new.sink _ _ _ _ c.make-sink.ensures c.into_bytes.ensures.held c.into_bytes.ensures.within
    c.into_bytes.ensures.full
    (c.run_with-status.ensures.front script known (none_left source.ended source.left))
    (λ calm. c.run_with-status.ensures.complete script known (λ rose. omega (arith, rose)) calm) in
    record { front = all.front; within = all.within; whole = all.whole }
