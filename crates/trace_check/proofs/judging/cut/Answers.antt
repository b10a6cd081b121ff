use Rattle.std.proofs.Common.{◌≡◌, ◌+◌, ◌-◌, ℕ, List, ◌∷◌, take, drop, length, sym, ap, ◌∙◌, arith, length-drop}
use Rattle.std.proofs.lemmas.List.{take_all}
use Rattle.ce_algorithms.specs.Lines.{lines_of}
use Rattle.trace_check.proofs.LineLaws.{cut_at, cut_nowhere}
use Rattle.trace_check.proofs.judging.cut.Goals as goal

pub returns-then-b-eq10-clause-lines : goal.returns-then-b-eq10-clause-lines
returns-then-b-eq10-clause-lines c =
    let bytes = c.args.bytes.now in
    let i = c.loop-i.i in
    let behind : take (length bytes - (i + 1)) (drop (i + 1) bytes) ≡ drop (i + 1) bytes =
    take_all (length bytes - (i + 1)) (drop (i + 1) bytes) (omega (arith, length-drop (i + 1) bytes)) in
    cut_at bytes i c.loop-i-test.true c.if-b-eq10.true c.loop-i.invariant ∙ ap (λ (l : List ℕ). take i bytes ∷ lines_of l) (sym behind)

pub returns-clause-lines : goal.returns-clause-lines
returns-clause-lines c = cut_nowhere c.args.bytes.now c.requires (λ k lt feed. c.loop-i.invariant k (omega arith) feed)
