use Rattle.std.proofs.lemmas.Str.Pattern.{contains_text}
use Rattle.submit_encoders.proofs.Occurs.{occurs_by_search}
use Rattle.submit_encoders.proofs.parts.occurs.Goals as goal

pub returns : goal.returns
returns c =
    occurs_by_search c.contains.result c.args.boundary.now c.args.text.now
    (contains_text c.contains.result c.args.boundary.now c.args.text.now c.contains.ensures.cases)
