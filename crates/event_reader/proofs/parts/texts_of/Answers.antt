use Rattle.std.proofs.Common.{rules, arith}
use Rattle.std.proofs.lemmas.Grind.{common_steps}
use Rattle.event_reader.proofs.FitLaws.{pushed_texts}
use Rattle.event_reader.proofs.parts.texts_of.Goals as goal

pub loop-t-preserved : goal.loop-t-preserved
loop-t-preserved c = (
  first_of (search rules, grind (arith, common_steps)),
  pushed_texts c.loop-t.texts c.push.new.self c.in_ok-text_of.field-0 c.in_ok-push.ensures c.loop-t.invariant.1 c.in_ok-text_of.ensures.fits,
)
