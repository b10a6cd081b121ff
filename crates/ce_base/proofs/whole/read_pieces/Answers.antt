use Rattle.std.proofs.Common.{◌≡◌, ◌++◌, length, refl, take, arith, length-append, length-take-le}
use Rattle.std.proofs.lemmas.Result.{err_from_is_err_and}
use Rattle.std.proofs.KnownBytes.{Consumes-trans}
use Rattle.ce_base.proofs.Pieces.{took_no_more}
use Rattle.ce_base.proofs.whole.read_pieces.Goals as goal

pub returns-in-End-clause-row : goal.returns-in-End-clause-row
returns-in-End-clause-row g c = record {
  taken = c.loop-taken.taken.items;
  took = took_no_more _ (g.S.Source.left c.loop-taken.source) _ c.loop-taken.taken.items c.loop-taken.invariant.took c.in-End.ensures.bytes;
  row = (c.of.ensures, c.in-End.ensures.ended, c.in-End.ensures.end refl, c.loop-taken.invariant.within);
}

pub returns-in-End-clause-told : goal.returns-in-End-clause-told
returns-in-End-clause-told g c = λ rose. let failed = c.in-End.ensures.told (omega arith) in cc

pub returns-then-count-limit-clause-told : goal.returns-then-count-limit-clause-told
returns-then-count-limit-clause-told g c = λ rose. let failed = c.in-Bytes.ensures.told (omega arith) in cc

pub returns-in_err-extend_from_slice-in-Bytes-clause-told : goal.returns-in_err-extend_from_slice-in-Bytes-clause-told
returns-in_err-extend_from_slice-in-Bytes-clause-told g c = λ rose. let failed = c.in-Bytes.ensures.told (omega arith) in cc

pub returns-then-count-limit-clause-row : goal.returns-then-count-limit-clause-row
returns-then-count-limit-clause-row g c =
    let more = take c.in-Bytes.count c.ask.new.buf in
    let len : length more ≡ c.in-Bytes.count = length-take-le _ _ c.in-Bytes.ensures.some.1 in
    record {
      taken = c.loop-taken.taken.items ++ more;
      took = Consumes-trans _ _ _ c.loop-taken.taken.items more c.loop-taken.invariant.took c.in-Bytes.ensures.bytes;
      row = omega (arith, length-append c.loop-taken.taken.items more, len);
    }

pub returns-in_err-extend_from_slice-in-Bytes-clause-row : goal.returns-in_err-extend_from_slice-in-Bytes-clause-row
returns-in_err-extend_from_slice-in-Bytes-clause-row g c =
    let more = take c.in-Bytes.count c.ask.new.buf in
    let len : length more ≡ c.in-Bytes.count = length-take-le _ _ c.in-Bytes.ensures.some.1 in
    let p = err_from_is_err_and c.from_residual.result c.from_residual.ensures.1 in
    rw p.1 (record {
      taken = c.loop-taken.taken.items ++ more;
      took = Consumes-trans _ _ _ c.loop-taken.taken.items more c.loop-taken.invariant.took c.in-Bytes.ensures.bytes;
      row = omega (arith, length-append c.loop-taken.taken.items more, len);
    })
