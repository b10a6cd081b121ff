use Rattle.std.proofs.Common.{◌+◌, ◌≤◌, length}
use Rattle.trace_check.proofs.PassLaws.{HasRead}
use Rattle.trace_check.proofs.judging.verdict_of.Given as goal

abbrev pub invariant-loop-rest : goal.invariant-loop-rest
invariant-loop-rest l = record { has : HasRead l.bytes l.rest l.count l.book; within : l.count + length l.rest ≤ length l.bytes }

abbrev pub decreases-loop-rest : goal.decreases-loop-rest
decreases-loop-rest l = length l.rest
