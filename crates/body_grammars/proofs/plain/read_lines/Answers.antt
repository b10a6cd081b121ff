use Rattle.std.proofs.lemmas.Result.{err_from_is_err_and}
use Rattle.std.proofs.Common.{◌∙◌, sym, ap, append-nil, Some}
use Rattle.std.proofs.lemmas.Bool.{eqb-true}
use Rattle.body_grammars.specs.Gives.{with_front}
use Rattle.body_grammars.proofs.SplitLaws.{last_empty, line_stopped, lines_none}
use Rattle.body_grammars.proofs.plain.read_lines.Goals as goal

pub returns-in_err-add_line : goal.returns-in_err-add_line
returns-in_err-add_line c =
    let p = err_from_is_err_and c.from_residual.result c.from_residual.ensures.1 in
    rw (p.1, p.2) (line_stopped c.in_err-add_line.field-0.0 c.loop-part.entries c.add_line.new.entries c.args.bytes.now c.loop-part.rest.now c.in-Some.part.now
    c.in-Some.behind.now c.loop-part.invariant c.in-Some.ensures.cut c.in_err-add_line.ensures)

pub returns-then-is_empty : goal.returns-then-is_empty
returns-then-is_empty c =
    sym c.loop-part.invariant
    ∙ (ap (with_front c.loop-part.entries)
    (lines_none c.loop-part.rest.now c.in_default.ensures.cut
    ∙ last_empty c.loop-part.rest.now (eqb-true _ 0 (sym c.is_empty.ensures ∙ c.if-is_empty.true)))
    ∙ ap Some (append-nil c.loop-part.entries))
