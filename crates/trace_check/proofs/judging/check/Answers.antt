use Rattle.ce_algorithms.specs.Lines.{lines_of}
use Rattle.trace_check.proofs.VerdictLaws.{found_no, found_yes}
use Rattle.trace_check.proofs.judging.check.Goals as goal

pub returns-clause-yes : goal.returns-clause-yes
returns-clause-yes c = found_yes c.each_trace_has_one_verdict.ensures (lines_of c.args.bytes.now) c.verdict_of.result c.verdict_of.ensures

pub returns-clause-no : goal.returns-clause-no
returns-clause-no c = found_no c.each_trace_has_one_verdict.ensures (lines_of c.args.bytes.now) c.verdict_of.result c.verdict_of.ensures
