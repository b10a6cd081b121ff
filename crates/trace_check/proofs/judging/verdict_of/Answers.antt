use Rattle.std.proofs.Common.{arith, subst, sym}
use Rattle.order_law.specs.Book.{Book}
use Rattle.trace_check.specs.Next.{IsAfterLine}
use Rattle.trace_check.proofs.PassLaws.{HasRead, breaks_here, more_read, nothing_read}
use Rattle.trace_check.proofs.judging.verdict_of.Goals as goal

pub loop-rest-init : goal.loop-rest-init
loop-rest-init c =
    let bytes = c.args.bytes.now in
    record { has = subst (λ (b : Book). HasRead bytes bytes 0 b) (sym c.make-book.ensures) (nothing_read bytes); within = omega arith }

pub returns-in-None : goal.returns-in-None
returns-in-None c =
    breaks_here c.texts_tell_steps.ensures c.args.bytes.now c.loop-rest.rest.now c.cut.result.0.now c.cut.result.1.now c.loop-rest.count c.loop-rest.book
    c.loop-rest.invariant.has c.cut.ensures.lines (subst (IsAfterLine c.loop-rest.book c.cut.result.0.now) c.in-None.is c.in_ok-after_line.ensures)

pub loop-rest-preserved : goal.loop-rest-preserved
loop-rest-preserved c = record {
  has =
      more_read c.args.bytes.now c.loop-rest.rest.now c.cut.result.0.now c.cut.result.1.now c.loop-rest.count c.loop-rest.book c.in-Some.next
      c.loop-rest.invariant.has c.cut.ensures.lines (subst (IsAfterLine c.loop-rest.book c.cut.result.0.now) c.in-Some.is c.in_ok-after_line.ensures);
  within = omega (arith, c.cut.ensures.shorter, c.loop-rest.invariant.within);
}
