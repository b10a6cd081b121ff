use Rattle.std.proofs.Common.{◌≡◌, ◌<◌, ◌+◌, ◌-◌, ◌∙◌, zero, sym, ap, append-nil, length, Some, arith}
use Rattle.std.proofs.lemmas.Result.{err_from_is_err_and}
use Rattle.body_grammars.specs.Gives.{with_front}
use Rattle.body_grammars.specs.ReadParts.{read_tail}
use Rattle.body_grammars.proofs.PartCuts.{part_stopped, tail_end, tail_more, tail_spent}
use Rattle.body_grammars.proofs.multipart.read_tail.Goals as goal

pub returns-then-is_closing : goal.returns-then-is_closing
returns-then-is_closing c =
    let small : c.loop-i._i < length c.args.bytes.now + 1 = omega (arith, c.loop-i-test.true) in
    sym c.loop-i.invariant
    ∙ (ap (with_front c.loop-i.entries)
    (tail_end (length c.args.bytes.now + 1) c.loop-i._i c.args.boundary.now c.loop-i.rest.now small (sym c.if-is_closing.true ∙ c.is_closing.ensures))
    ∙ ap Some (append-nil c.loop-i.entries))

pub returns-in_err-rest : goal.returns-in_err-rest
returns-in_err-rest c =
    let small : c.loop-i._i < length c.args.bytes.now + 1 = omega (arith, c.loop-i-test.true) in
    let p = err_from_is_err_and c.from_residual.result c.from_residual.ensures.1 in
    rw (p.1, p.2) (part_stopped c.in_err-rest.field-0.0 (length c.args.bytes.now + 1) c.loop-i._i c.loop-i.entries c.add_part.new.entries c.args.boundary.now
    c.loop-i.rest.now c.args.bytes.now small c.loop-i.invariant (sym c.if-is_closing.false ∙ c.is_closing.ensures) c.in_err-rest.ensures)

pub loop-i-preserved : goal.loop-i-preserved
loop-i-preserved c =
    let small : c.loop-i._i < length c.args.bytes.now + 1 = omega (arith, c.loop-i-test.true) in
    sym (c.in_ok-rest.ensures (read_tail (length c.args.bytes.now + 1 - (c.loop-i._i + 1)) c.args.boundary.now))
    ∙ (ap (with_front c.loop-i.entries)
    (sym (tail_more (length c.args.bytes.now + 1) c.loop-i._i c.args.boundary.now c.loop-i.rest.now small
    (sym c.if-is_closing.false ∙ c.is_closing.ensures)))
    ∙ c.loop-i.invariant)

pub returns : goal.returns
returns c =
    let spent : length c.args.bytes.now + 1 - c.loop-i._i ≡ zero = omega (arith, c.loop-i-test.false) in
    tail_spent (length c.args.bytes.now + 1 - c.loop-i._i) c.loop-i.entries c.args.boundary.now c.loop-i.rest.now c.args.bytes.now spent c.loop-i.invariant
