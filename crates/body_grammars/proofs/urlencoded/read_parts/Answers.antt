use Rattle.std.proofs.Common.{◌∙◌, sym, ap, append-nil, Some, []}
use Rattle.std.proofs.lemmas.Result.{err_from_is_err_and}
use Rattle.body_grammars.specs.Gives.{with_front}
use Rattle.body_grammars.proofs.SplitLaws.{parts_none, stopped}
use Rattle.body_grammars.proofs.urlencoded.read_parts.Goals as goal

pub returns-in_err-add_pair : goal.returns-in_err-add_pair
returns-in_err-add_pair c =
    let p = err_from_is_err_and c.from_residual.result c.from_residual.ensures.1 in
    rw (p.1, p.2) (stopped c.in_err-add_pair.field-0.0 c.loop-part.entries c.add_pair.new.entries c.args.bytes.now c.loop-part.rest.now c.in-Some.part.now
    c.in-Some.behind.now c.loop-part.invariant c.in-Some.ensures.cut c.in_err-add_pair.ensures)

pub returns : goal.returns
returns c =
    sym c.loop-part.invariant
    ∙ (ap (with_front c.loop-part.entries) (parts_none c.loop-part.rest.now c.in_default.ensures.cut)
    ∙ (c.in_ok-add_pair-2.ensures (Some []) ∙ ap Some (append-nil c.add_pair-2.new.entries)))
