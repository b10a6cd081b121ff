use Rattle.std.proofs.Common.{arith, rules}
use Rattle.std.proofs.lemmas.Grind.{common_steps}
use Rattle.submit_encoders.proofs.Quotes.{escapes_quote}
use Rattle.submit_encoders.proofs.written.put_quoted.Goals as goal

pub loop-front-preserved : goal.loop-front-preserved
loop-front-preserved c =
    let cut = escapes_quote c.loop-front.left.now c.in-Some.front.now c.in-Some.rest.now c.loop-front.invariant.1 c.in-Some.ensures in
    (search rules, cut.is_line, grind (arith, common_steps, cut.escapes))
