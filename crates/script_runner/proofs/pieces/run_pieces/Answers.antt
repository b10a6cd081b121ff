use Rattle.std.proofs.Common.{◌≡◌, ◌≤◌, ◌-◌, ◌∙◌, ap, take, length, length-take-le, arith, Err, refl}
use Rattle.std.proofs.lemmas.Result.{err_from_is_err_and}
use Rattle.ce_base.proofs.Counts.{no_bytes_where_it_rose, unrisen}
use Rattle.ce_base.specs.Whole.{piece}
use Rattle.script_runner.specs.Table.{limit}
use Rattle.script_runner.proofs.PieceLaws.{streamed_first, streamed_piece, within_limit}
use Rattle.script_runner.proofs.ExitLaws.{meets_read_fault, meets_end, meets_end_stop, meets_stop, meets_fuel, meets_too_long, rose_since}
use Rattle.script_runner.proofs.pieces.run_pieces.Goals as goal

pub pieces-init : goal.pieces-init
pieces-init g c = record {
  streamed = streamed_first _ _ _ _ _ c.in_ok-session.ensures c.make-feed.ensures;
  source_later = omega arith;
  sink_later = omega arith;
  source_told = omega arith;
  sink_told = omega arith;
}

pub returns-in-Failed-clause-table : goal.returns-in-Failed-clause-table
returns-in-Failed-clause-table g c =
    rw c.in-Failed.ensures.ended (meets_read_fault _ _ _ _ _ _ _ _ _ (g.S.Source.failed c.args.source.now) (g.S.Source.failed c.ask.new.source)
    (g.K.Sink.failed c.args.sink.now) (g.K.Sink.failed c.pieces.sink) c.pieces.invariant.streamed c.in-Failed.ensures.bytes
    (rose_since _ _ _ c.pieces.invariant.source_later (c.in-Failed.ensures.cause refl)))

pub returns-in_err-session-in-End-clause-table : goal.returns-in_err-session-in-End-clause-table
returns-in_err-session-in-End-clause-table g c =
    let p = err_from_is_err_and c.from_residual-in_err-session-in-End.result c.from_residual-in_err-session-in-End.ensures.1 in
    let stop = c.in_err-session-in-End.field-0.0 in
    rw (c.in-End.ensures.ended, p.1, p.2)
    (meets_end_stop stop _ _ _ _ _ _ _ _ _ _ (g.S.Source.failed c.args.source.now) (g.S.Source.failed c.ask.new.source) (g.K.Sink.failed c.args.sink.now)
    (g.K.Sink.failed c.finish.new.sink) c.pieces.invariant.streamed c.in-End.ensures.bytes c.in_err-session-in-End.ensures.part
    (λ is. rose_since _ _ _ c.pieces.invariant.sink_later (c.in_err-session-in-End.ensures.cause (ap Err is))))

pub returns-in-End-clause-table : goal.returns-in-End-clause-table
returns-in-End-clause-table g c =
    rw (c.in-End.ensures.ended, c.at_end.ensures)
    (meets_end _ _ _ _ _ _ _ _ _ _ _ _ (g.S.Source.failed c.args.source.now) (g.S.Source.failed c.ask.new.source) (g.K.Sink.failed c.args.sink.now)
    (g.K.Sink.failed c.finish.new.sink) c.pieces.invariant.streamed c.in-End.ensures.bytes (c.in-End.ensures.end refl)
    c.in_ok-session-in-End.ensures.ran)

pub returns-in_err-next-in-Bytes-clause-table : goal.returns-in_err-next-in-Bytes-clause-table
returns-in_err-next-in-Bytes-clause-table g c =
    let short : length (take c.in-Bytes.count c.ask.new.buf) ≤ piece =
    omega (arith, length-take-le c.in-Bytes.count c.ask.new.buf c.in-Bytes.ensures.some.1, c.in-Bytes.ensures.some.1) in
    let p = err_from_is_err_and c.from_residual-in_err-next-in-Bytes.result c.from_residual-in_err-next-in-Bytes.ensures.1 in
    let stop = c.in_err-next-in-Bytes.field-0.0 in
    rw (c.in-Bytes.ensures.ended, p.1, p.2)
    (meets_stop stop _ _ _ _ _ _ _ _ _ _ _ _ (g.S.Source.failed c.args.source.now) (g.S.Source.failed c.ask.new.source) (g.K.Sink.failed c.args.sink.now)
    (g.K.Sink.failed c.take_piece.new.sink) c.pieces.invariant.streamed c.in-Bytes.ensures.bytes short
    (within_limit c.ask.new.buf c.in-Bytes.count (limit - c.pieces.taken) c.min-within.result c.in-Bytes.ensures.some.1 c.min-within.ensures)
    c.in_err-next-in-Bytes.ensures.part
    (λ is. rose_since _ _ _ c.pieces.invariant.sink_later (c.in_err-next-in-Bytes.ensures.cause (ap Err is))))

pub returns-in-FuelSpent-clause-table : goal.returns-in-FuelSpent-clause-table
returns-in-FuelSpent-clause-table g c =
    let short : length (take c.in-Bytes.count c.ask.new.buf) ≤ piece =
    omega (arith, length-take-le c.in-Bytes.count c.ask.new.buf c.in-Bytes.ensures.some.1, c.in-Bytes.ensures.some.1) in
    rw c.in-Bytes.ensures.ended (meets_fuel _ _ _ _ _ _ _ _ c.in_ok-next-in-Bytes.next c.in_ok-next-in-Bytes.end _ _ _ _ (g.S.Source.failed c.args.source.now)
    (g.S.Source.failed c.ask.new.source) (g.K.Sink.failed c.args.sink.now)
    (g.K.Sink.failed c.take_piece.new.sink) c.pieces.invariant.streamed c.in-Bytes.ensures.bytes short
    (within_limit c.ask.new.buf c.in-Bytes.count (limit - c.pieces.taken) c.min-within.result c.in-Bytes.ensures.some.1 c.min-within.ensures)
    c.in-FuelSpent.is c.in_ok-next-in-Bytes.ensures.ran)

pub returns-then-within-count-clause-table : goal.returns-then-within-count-clause-table
returns-then-within-count-clause-table g c =
    let len : length (take c.in-Bytes.count c.ask.new.buf) ≡ c.in-Bytes.count = length-take-le _ _ c.in-Bytes.ensures.some.1 in
    let short : length (take c.in-Bytes.count c.ask.new.buf) ≤ piece = omega (arith, len, c.in-Bytes.ensures.some.1) in
    rw c.in-Bytes.ensures.ended (meets_too_long _ _ _ _ _ _ _ _ c.in_ok-next-in-Bytes.next c.in_ok-next-in-Bytes.end _ _ _ _
    (g.S.Source.failed c.args.source.now) (g.S.Source.failed c.ask.new.source) (g.K.Sink.failed c.args.sink.now)
    (g.K.Sink.failed c.take_piece.new.sink) c.pieces.invariant.streamed c.in-Bytes.ensures.bytes short
    (within_limit c.ask.new.buf c.in-Bytes.count (limit - c.pieces.taken) c.min-within.result c.in-Bytes.ensures.some.1 c.min-within.ensures) (omega arith)
    c.in_default.is c.in_ok-next-in-Bytes.ensures.ran)

pub pieces-preserved : goal.pieces-preserved
pieces-preserved g c =
    let whole : c.min-within.result ≡ c.in-Bytes.count = omega arith in
    let len : length (take c.min-within.result c.ask.new.buf) ≡ c.in-Bytes.count = length-take-le _ _ (omega (arith, c.in-Bytes.ensures.some)) ∙ whole in
    record {
      streamed = streamed_piece _ _ _ _ _ _ _ _ _ _ _ (take c.min-within.result c.ask.new.buf) _ _ c.pieces.invariant.streamed
          (rw whole c.in-Bytes.ensures.bytes) len (omega arith)
          (rw c.in_default.is at c.in_ok-next-in-Bytes.ensures.ran)
          (c.in_ok-next-in-Bytes.ensures.drained c.in_default.is) c.in_ok-next-in-Bytes.ensures.number;
      source_later = omega arith;
      sink_later = omega arith;
      source_told = let same = no_bytes_where_it_rose _ _ _ c.in-Bytes.ensures.told in let kept = c.pieces.invariant.source_told in omega (arith, same, kept);
      sink_told = let same = unrisen _ _ _ _ c.in_ok-next-in-Bytes.ensures.told in let kept = c.pieces.invariant.sink_told in omega (arith, same, kept);
    }
