use Rattle.std.proofs.Common.{refl, sym, arith, ◌∙◌}
use Rattle.std.proofs.lemmas.Result.{err_from_is_err_and}
use Rattle.ce_base.proofs.Counts.{unrisen}
use Rattle.script_runner.proofs.LoopLaws.{runs_blank, runs_nothing, runs_line, runs_part, runs_stop, runs_spent, runs_all, runs_drained}
use Rattle.script_runner.proofs.lines.run_lines.Goals as goal

pub lines-init : goal.lines-init
lines-init g c = record {
  runs = runs_nothing _ _ _ c.requires.empty;
  home = refl;
  below = omega arith;
  later = omega arith;
  told = omega arith;
}

pub returns-in-Err-clause-part : goal.returns-in-Err-clause-part
returns-in-Err-clause-part g c = runs_stop _ _ _ _ _ _ c.lines.invariant.runs

pub returns-in_err-next-clause-part : goal.returns-in_err-next-clause-part
returns-in_err-next-clause-part g c =
    let gives = rw c.in-Ok-Some.field-0-is at c.in-Ok-Some.ensures.line in
    let p = err_from_is_err_and c.from_residual.result c.from_residual.ensures.1 in
    rw p.1 (runs_part _ _ _ _ c.next_line.new.self c.as_slice-in-lines.result.now _ _ _ c.lines.invariant.runs
    (rw c.as_slice-in-lines.ensures gives) c.in_err-next.ensures.part)

pub returns-in-FuelSpent-clause-ran : goal.returns-in-FuelSpent-clause-ran
returns-in-FuelSpent-clause-ran g c =
    let gives = rw c.in-Ok-Some.field-0-is at c.in-Ok-Some.ensures.line in
    rw c.in-FuelSpent.is (runs_spent _ _ c.in_ok-next.next _ _ c.next_line.new.self c.as_slice-in-lines.result.now _ _ _ c.lines.invariant.runs
    (rw c.as_slice-in-lines.ensures gives) (rw c.in-FuelSpent.is at c.in_ok-next.ensures.ran) c.in_ok-next.ensures.empty c.in_ok-next.ensures.trace
    c.in_ok-next.ensures.number c.in_ok-next.ensures.bad)

pub lines-preserved : goal.lines-preserved
lines-preserved g c =
    let gives = rw c.in-Ok-Some.field-0-is at c.in-Ok-Some.ensures.line in
    record {
      runs = runs_line _ _ c.in_ok-next.next _ _ c.next_line.new.self c.as_slice-in-lines.result.now _ _ _ c.lines.invariant.runs
          (rw c.as_slice-in-lines.ensures gives) (rw c.in_default.is at c.in_ok-next.ensures.ran) c.in_ok-next.ensures.empty c.in_ok-next.ensures.trace
          c.in_ok-next.ensures.number c.in_ok-next.ensures.bad;
      home = c.in_ok-next.ensures.home ∙ c.lines.invariant.home;
      below = omega arith;
      later = omega arith;
      told = let same = unrisen _ _ _ _ c.in_ok-next.ensures.told in let kept = c.lines.invariant.told in omega (arith, same, kept);
    }

pub lines-preserved-then-says_nothing : goal.lines-preserved-then-says_nothing
lines-preserved-then-says_nothing g c =
    let gives = rw c.in-Ok-Some.field-0-is at c.in-Ok-Some.ensures.line in
    record {
      runs = rw c.pass.ensures (runs_blank _ _ _ _ c.next_line.new.self c.as_slice.result.now _ _ c.lines.invariant.runs (rw c.as_slice.ensures gives)
          (sym c.says_nothing.ensures ∙ c.if-says_nothing.true));
      home = c.lines.invariant.home;
      below = c.lines.invariant.below;
      later = c.lines.invariant.later;
      told = c.lines.invariant.told;
    }

pub returns-in-Ok-None-clause-ran : goal.returns-in-Ok-None-clause-ran
returns-in-Ok-None-clause-ran g c = runs_all _ _ _ _ _ _ c.lines.invariant.runs (rw c.in-Ok-None.field-0-is at c.in-Ok-None.ensures.no_line_feed)

pub returns-in-Ok-None-clause-drained : goal.returns-in-Ok-None-clause-drained
returns-in-Ok-None-clause-drained g c = λ _.
    let clean = rw c.in-Ok-None.field-0-is at c.in-Ok-None.ensures.no_line_feed in
    let same = rw c.in-Ok-None.field-0-is at c.in-Ok-None.ensures.none in
    rw same (runs_drained _ _ _ _ _ _ c.lines.invariant.runs clean)
