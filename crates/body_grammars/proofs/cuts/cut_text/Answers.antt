use Rattle.std.proofs.Common.{◌<◌, ◌≤◌, ◌∙◌, ap, length, arith}
use Rattle.body_grammars.specs.Cuts.{behind}
use Rattle.body_grammars.proofs.TextCuts.{slice_rest, text_here, text_later, text_nowhere}
use Rattle.body_grammars.proofs.cuts.cut_text.Goals as goal

pub returns-in-Some : goal.returns-in-Some
returns-in-Some c =
    let small : c.loop-i.i < length c.args.bytes.now = omega (arith, c.loop-i-test.true) in
    record {
      cut = text_here c.args.text.now c.args.bytes.now c.in-Some.rest.now c.loop-i.i small c.loop-i.invariant
          (c.in-Some.ensures.behind ∙ ap (behind c.args.text.now) (slice_rest c.args.bytes.now c.loop-i.i));
    }

pub loop-i-preserved : goal.loop-i-preserved
loop-i-preserved c =
    let small : c.loop-i.i < length c.args.bytes.now = omega (arith, c.loop-i-test.true) in
    text_later c.args.text.now c.args.bytes.now c.loop-i.i small c.loop-i.invariant
    (c.in_default.ensures.behind ∙ ap (behind c.args.text.now) (slice_rest c.args.bytes.now c.loop-i.i))

pub returns : goal.returns
returns c =
    let end : length c.args.bytes.now ≤ c.loop-i.i = omega (arith, c.loop-i-test.false) in
    record { cut = text_nowhere c.args.text.now c.args.bytes.now c.loop-i.i end c.loop-i.invariant }
